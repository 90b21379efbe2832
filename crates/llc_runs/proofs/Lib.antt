pub mod Ones
pub mod Runs
pub mod Outputs
pub mod Settled
pub mod Claim
pub mod Instance
pub mod Applied
pub mod AppliedLost
