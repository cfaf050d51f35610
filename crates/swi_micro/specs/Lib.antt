pub mod Classes
pub mod MicroOp
pub mod Ran
pub mod Stored
pub mod Decoded
