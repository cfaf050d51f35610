pub mod Counting
pub mod Lines
pub mod Sizes
pub mod Surveying
