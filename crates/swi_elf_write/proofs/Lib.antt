pub mod Headers
pub mod Tables
pub mod Checks
pub mod ReadBack
