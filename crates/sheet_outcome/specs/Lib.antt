-- Document 01, 'The sheet': what a sampler's call comes to.
pub mod Outcomes
