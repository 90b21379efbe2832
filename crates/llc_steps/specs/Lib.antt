pub mod States
pub mod TickEnd
pub mod Places
pub mod Calls
pub mod Steps
pub mod Holds
pub mod Answers
pub mod Sane
