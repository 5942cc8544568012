pub mod Joining
pub mod Labelling
pub mod Sweeping
pub mod Filling
pub mod Lawful
