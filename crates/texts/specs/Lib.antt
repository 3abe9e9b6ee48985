-- Fixed text as bytes, text in a lent buffer, numbers as text.
pub mod Bytes
pub mod Laid
pub mod Numbers
