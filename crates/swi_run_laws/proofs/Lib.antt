pub mod After
pub mod Midway
pub mod RunLaws
pub mod Between
pub mod Inside
pub mod Broken
pub mod Schedules
pub mod Runs
