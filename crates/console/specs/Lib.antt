pub mod Answers
pub mod Coming
pub mod Faults
pub mod Hands
pub mod Requests
