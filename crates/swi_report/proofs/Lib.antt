pub mod Areas
pub mod Counts
pub mod Pieces
