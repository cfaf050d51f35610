pub mod Runs
pub mod Quiet
pub mod Stepping
pub mod ToldRuns
pub mod QuietSteps
pub mod Coasting
