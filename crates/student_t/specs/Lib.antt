-- Document 01, 'Sampler rules', StudentT.
pub mod StudentT
