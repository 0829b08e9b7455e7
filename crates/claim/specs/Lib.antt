pub mod Machine
pub mod Calls
pub mod Claim
pub mod Bench
pub mod Quiet
