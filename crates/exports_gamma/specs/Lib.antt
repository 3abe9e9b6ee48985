-- Gamma as a call on plain numbers takes it, and as one shows it.
pub mod Ready
pub mod Shown
