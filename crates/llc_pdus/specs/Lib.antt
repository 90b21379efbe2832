pub mod Answers
pub mod Frames
pub mod Headers
pub mod Received
pub mod Sdus
pub mod Types
pub mod Writes
