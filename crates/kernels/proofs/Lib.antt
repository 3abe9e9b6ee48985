-- What the proofs share, from whole numbers up to the laws that other crates cite: `Bounds`, `Lows`, `Kernels`, `SqrtLaws`, `Rows`, and of numbers `Products`,
-- `Patterns`, `Values`, `Significands`.
pub mod Open
pub mod Products
pub mod Sizes
pub mod Integers
pub mod Patterns
pub mod Shift
pub mod Bounds
pub mod Values
pub mod Lows
pub mod Tests
pub mod Powers
pub mod Significands
pub mod Scaling
pub mod Middles
pub mod Nearness
pub mod SqrtLaws
pub mod LnBounds
pub mod ExpBounds
pub mod Kernels
pub mod Rows
