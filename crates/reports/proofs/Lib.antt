-- What the proofs share, and every exported call's proof cites.
pub mod Laws
pub mod Single
pub mod Showing
