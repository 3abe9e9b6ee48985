-- Document 01, 'The sheet'. Keys and Lines are what the code is held to, Inner how its answers are read.
pub mod Keys
pub mod Lines
pub mod Inner
