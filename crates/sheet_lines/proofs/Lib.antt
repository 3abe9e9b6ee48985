-- The names of line 2: Names. What the promise of `scan` leaves one outcome by: OneOutcome.
pub mod Names
pub mod OneOutcome
