pub mod Cached
pub mod Slotted
pub mod Ringed
pub mod Told
pub mod Traced
pub mod CachedRan
pub mod Answers
