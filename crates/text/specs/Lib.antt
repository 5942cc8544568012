pub mod Parts
pub mod Digits
pub mod Lines
pub mod Whole
pub mod Scopes
