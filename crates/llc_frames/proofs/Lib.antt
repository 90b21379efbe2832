pub mod Found
pub mod Heard
pub mod Paths
