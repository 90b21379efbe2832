pub mod Filled
pub mod Laws
pub mod Spelled
