pub mod Jumps
pub mod Files
