pub mod Decoded
pub mod Ranges
