-- What the proofs share, here and in the two routes.
pub mod Scans
pub mod Positives
pub mod Laws
