pub mod Losing
pub mod Ahead
