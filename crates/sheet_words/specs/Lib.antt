-- Bytes is what the code is held to, Inner how its answers are read.
pub mod Bytes
pub mod Inner
