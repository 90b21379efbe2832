pub mod Bounds
pub mod Bytes
pub mod Examples
pub mod Laws
pub mod Widths
