pub mod Places
pub mod Codes
pub mod Stacks
pub mod Turning
pub mod Beginning
pub mod Going
