-- Document 01, 'Sampler rules', FisherF.
pub mod FisherF
