-- What the proofs share.
pub mod SmallAndOne
pub mod Steps
pub mod Trials
pub mod LargeSearch
pub mod Counts
pub mod Exact
pub mod Parameters
pub mod Later
pub mod Refusals
pub mod Exactly
pub mod Zeros
