pub mod Sums
pub mod Agreeing
pub mod Storing
pub mod Forgetting
pub mod Straight
