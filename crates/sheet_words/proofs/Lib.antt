-- Why the code meets its contracts: AtPosition, Spanning. What is written in hex is read, and nothing else: Hex. What the promises leave one
-- outcome by: OneOutcome.
pub mod AtPosition
pub mod Spanning
pub mod Hex
pub mod OneOutcome
