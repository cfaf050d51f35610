pub mod Tasks
pub mod Alike
