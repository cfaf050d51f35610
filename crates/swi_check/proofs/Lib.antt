pub mod Errors
pub mod Places
pub mod Words
pub mod Blocks
pub mod Never
