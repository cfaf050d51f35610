pub mod Ends
pub mod Words
pub mod Texts
pub mod FromFile
pub mod FromText
pub mod FromWords
