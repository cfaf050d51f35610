pub mod Left
pub mod Sizes
pub mod Same
pub mod Stored
