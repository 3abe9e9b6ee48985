-- Document 01, 'The sheet'. Whole is what the code is held to, Shown and Inner how its answers are read; Written is what theorems hold them to.
pub mod Whole
pub mod Shown
pub mod Inner
pub mod Written
