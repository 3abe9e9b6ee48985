-- What the proofs share.
pub mod Mapping
pub mod Pairs
pub mod Exits
pub mod Reading
pub mod Finite
pub mod Searches
pub mod Walks
pub mod Later
pub mod Sequencing
pub mod InOrder
pub mod Fills
pub mod FillsExact
pub mod Exactly
pub mod Stages
pub mod NotFirst
