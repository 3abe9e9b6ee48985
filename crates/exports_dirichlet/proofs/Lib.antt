-- What the proofs share.
pub mod Vectors
