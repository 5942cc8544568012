pub mod Cuts
pub mod Digits
pub mod Taking
pub mod Words
pub mod Bodies
pub mod Walks
