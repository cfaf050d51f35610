pub mod After
pub mod Broken
pub mod Schedules
pub mod Runs
