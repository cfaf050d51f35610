pub mod Words
pub mod Images
pub mod Cuts
mod ImageWords
pub mod Bytes
