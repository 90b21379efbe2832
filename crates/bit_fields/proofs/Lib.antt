pub mod Copying
pub mod Filling
pub mod Powers
pub mod Reading
pub mod Writing
