pub mod Sharing
pub mod SharedFiles
pub mod SharedGuests
pub mod SharedRuns
pub mod SharedOver
pub mod Reading
