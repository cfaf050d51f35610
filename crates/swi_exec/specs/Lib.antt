pub mod Arithmetic
pub mod Execute
pub mod Registers
pub mod Places
pub mod StoresText
pub mod Laws
