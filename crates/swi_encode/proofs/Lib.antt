pub mod Codes
pub mod Rows
mod Forth
pub mod Back
