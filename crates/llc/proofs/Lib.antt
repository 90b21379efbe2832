pub mod Determined
pub mod Ways
