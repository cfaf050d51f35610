pub mod Tracing
pub mod Caching
