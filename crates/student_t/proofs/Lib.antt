-- What is proved of the sampler beyond its functions' contracts.
pub mod Laws
pub mod Exactly
