pub mod Masks
pub mod Groups
pub mod Exits
pub mod Tally
pub mod Tallies
