pub mod Choices
pub mod Lists
pub mod Tests
pub mod Arrays
pub mod Tables
pub mod Writes
pub mod Std
