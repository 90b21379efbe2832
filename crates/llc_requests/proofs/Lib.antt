pub mod Asked
pub mod Due
pub mod Puts
pub mod Stores
