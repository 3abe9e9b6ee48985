-- What the proofs share, and what they show of every sample.
pub mod Trials
pub mod Later
pub mod Exact
pub mod Refusals
pub mod Exactly
pub mod Parameters
pub mod Fields
pub mod Shares
pub mod Range
