pub mod Answers
pub mod Reads
pub mod Steps
pub mod Window
pub mod Writes
