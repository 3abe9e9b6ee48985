-- Document 01, 'Sampler rules', Gamma.
pub mod Small
pub mod Large
pub mod Gamma
