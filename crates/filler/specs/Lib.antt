pub mod Sweeps
pub mod Fills
