pub mod Laws
pub mod Bytes
pub mod ByBits
pub mod PartLaws
