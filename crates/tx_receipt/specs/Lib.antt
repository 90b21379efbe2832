pub mod Marks
pub mod States
