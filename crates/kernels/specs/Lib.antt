-- Document 01, section Kernels: what ln, exp, powf and sqrt answer.
pub mod Numbers
pub mod Ln
pub mod Exp
pub mod Powf
pub mod Sqrt
pub mod SquareRoot
pub mod Inner
