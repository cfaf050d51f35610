pub mod Transfers
pub mod Paging
pub mod Writes
pub mod Room
pub mod Example
pub mod Runs
