-- Calls on plain numbers: what a report lends and says, what a call gives for any sampler, and what shows a sampler that was made.
pub mod Reports
pub mod Calls
pub mod Shown
