-- Document 01, 'Sampler rules', Beta; and document 02, #110, of its range.
pub mod Algorithm
pub mod Beta
pub mod Range
