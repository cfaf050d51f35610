mod Jumps
pub mod Moving
