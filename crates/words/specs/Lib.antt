-- The word of 64 bits that stands for a float.
pub mod Words
