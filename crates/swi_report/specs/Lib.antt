pub mod Laws
pub mod State
pub mod Stats
pub mod Engine
pub mod Summary
pub mod Shared
