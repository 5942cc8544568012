pub mod Answers
pub mod Candidates
pub mod Points
pub mod Typings
