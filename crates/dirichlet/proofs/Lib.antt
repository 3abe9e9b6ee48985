-- What the proofs share.
pub mod BetaCells
pub mod BetaPositives
pub mod BetaSamples
pub mod GammaPositives
pub mod GammaSamples
pub mod Laws
pub mod Range
