pub mod Points
pub mod Ranges
pub mod StartFacts
