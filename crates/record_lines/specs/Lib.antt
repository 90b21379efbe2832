pub mod Split
pub mod Ends
