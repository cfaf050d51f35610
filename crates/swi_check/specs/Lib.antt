pub mod Mismatches
pub mod Parts
