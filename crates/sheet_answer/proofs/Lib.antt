-- What the proofs share.
pub mod WordsToFloats
pub mod AnswerLines
