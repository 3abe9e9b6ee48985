-- Which words are a NaN's, and that word and float give each other back.
pub mod Nans
pub mod Back
