pub mod Block
pub mod History
pub mod Mnemonics
pub mod Text
