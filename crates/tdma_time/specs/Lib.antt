pub mod Modulo
pub mod Slots
pub mod Answers
