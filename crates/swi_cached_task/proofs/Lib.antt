pub mod Caching
pub mod Placing
