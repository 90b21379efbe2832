pub mod Polynomials
pub mod Fcs
pub mod Register
pub mod Answers
