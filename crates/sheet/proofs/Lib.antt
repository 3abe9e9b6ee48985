-- Why the code meets its contracts: Storing, Answers. What theorems hold `parse` and `front` to: the others.
pub mod Storing
pub mod Answers
pub mod Lists
pub mod ReadBack
pub mod FirstWrong
pub mod Pieces
pub mod OneOutcome
pub mod Worked
