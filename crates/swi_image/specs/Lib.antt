pub mod Words
pub mod Format
pub mod Checks
pub mod Place
pub mod Row
pub mod Kept
pub mod Sound
pub mod Laws
