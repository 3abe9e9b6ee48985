-- Document 01, 'Sampler rules', ChiSquared.
pub mod ChiSquared
