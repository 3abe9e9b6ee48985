-- What a line of the recorded list says, when it agrees, and how lines are counted.
pub mod Lines
pub mod Tallies
