pub mod InRange
pub mod Counts
pub mod InUse
pub mod Lengths
pub mod Maps
pub mod Places
pub mod View
