pub mod Values
pub mod Holding
pub mod Stepping
pub mod Running
