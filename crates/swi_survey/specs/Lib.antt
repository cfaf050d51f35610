pub mod Ways
pub mod Leaving
pub mod Survey
pub mod Track
