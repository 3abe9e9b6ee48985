-- Document 01, 'Sampler rules', Pert.
pub mod Pert
