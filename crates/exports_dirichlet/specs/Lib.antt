-- Dirichlet as a call on plain numbers.
pub mod Vectors
