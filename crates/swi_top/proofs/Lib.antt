pub mod Alike
pub mod Lined
