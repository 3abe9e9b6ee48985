-- One text after another, and numbers as text.
pub mod Laying
pub mod Digits
pub mod Decimal
