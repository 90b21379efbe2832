pub mod Effect
pub mod Outcome
pub mod Refusals
