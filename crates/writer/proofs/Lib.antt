pub mod Putting
pub mod Texts
pub mod Bounds
pub mod Filling
