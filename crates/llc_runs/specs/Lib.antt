pub mod Runs
pub mod Heard
pub mod Outputs
pub mod Claim
