pub mod Written
pub mod Runs
mod Sequences
pub mod Drafted
pub mod Finished
pub mod Upgraded
