-- Document 01, 'The sheet': what is answered.
pub mod Outcomes
pub mod Texts
