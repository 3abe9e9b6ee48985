-- What the proofs share. `kernels` cites `Squares` and `Roots`.
pub mod Squares
pub mod Roots
pub mod Refining
pub mod Table
