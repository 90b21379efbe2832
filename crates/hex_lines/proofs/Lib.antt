pub mod Digits
pub mod Feeding
pub mod Gathering
pub mod Writes
pub mod RoundTrip
pub mod Splitting
pub mod Examples
