pub mod Determined
pub mod Entry
