pub mod Drawn
mod Encoded
mod Functions
mod Making
