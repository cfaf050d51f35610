-- for the crates above: lemmas on the public table
pub mod Sums
pub mod Masks
pub mod Apart
mod Few
