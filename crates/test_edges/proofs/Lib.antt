-- The table of document 01, computed.
pub mod Edges
