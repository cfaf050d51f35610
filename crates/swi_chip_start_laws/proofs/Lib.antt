mod Jumps
pub mod Files
