pub mod Cuts
pub mod Lines
pub mod Records
pub mod Examples
