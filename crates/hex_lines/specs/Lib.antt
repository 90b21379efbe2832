pub mod Lines
pub mod Gathering
pub mod Fed
pub mod Reading
