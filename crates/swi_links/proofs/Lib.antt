pub mod Numbers
pub mod Chain
pub mod Tying
pub mod Calls
pub mod Strides
mod Leaving
mod Undoing
