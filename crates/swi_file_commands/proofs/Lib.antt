pub mod Confirming
pub mod Listings
pub mod Running
pub mod Flats
pub mod Profiling
pub mod Written
