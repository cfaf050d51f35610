pub mod ProgramHeaders
pub mod Elf
pub mod Loaded
pub mod Accepted
