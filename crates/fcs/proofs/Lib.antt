pub mod Division
pub mod Register
pub mod Ends
pub mod Laws
pub mod Computed
pub mod Table
pub mod Remainder
