pub mod Pairs
pub mod Climbs
pub mod Digit
pub mod Masking
pub mod CommonBits
pub mod MaskTable
