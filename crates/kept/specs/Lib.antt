-- What samplers keep, by plain numbers.
pub mod Kept
