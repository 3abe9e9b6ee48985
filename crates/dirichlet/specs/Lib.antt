-- Document 01, 'Sampler rules', Dirichlet.
pub mod FromBeta
pub mod FromGamma
pub mod Dirichlet
