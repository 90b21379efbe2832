pub mod Laws
pub mod Range
pub mod Remainders
