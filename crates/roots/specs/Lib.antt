-- Roots of whole numbers.
pub mod Roots
