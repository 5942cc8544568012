pub mod CardMeaning
pub mod Openings
