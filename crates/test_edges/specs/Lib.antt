-- Document 01, 'Values at the edges'.
pub mod Edges
