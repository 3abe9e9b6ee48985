-- The laws of Pert.
pub mod Laws
pub mod Exactly
pub mod Range
