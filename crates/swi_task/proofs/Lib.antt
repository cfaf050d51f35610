pub mod Images
pub mod Refusals
pub mod Puts
pub mod Due
pub mod Lines
pub mod Starts
