pub mod Marking
pub mod Arrays
pub mod Shifting
pub mod Found
