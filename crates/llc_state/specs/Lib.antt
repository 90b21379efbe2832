pub mod InUse
pub mod Lengths
pub mod Progress
pub mod Ranges
pub mod Receipts
pub mod States
pub mod View
