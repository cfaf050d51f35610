pub mod Placed
pub mod Answered
pub mod Parts
pub mod Surveyed
pub mod Counted
