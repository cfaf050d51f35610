pub mod Matching
pub mod Naming
pub mod Files
pub mod Sizes
