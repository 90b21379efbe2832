pub mod Frames
pub mod Numbers
pub mod Receipts
pub mod Times
pub mod Windows
