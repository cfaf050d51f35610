pub mod FileHeader
pub mod Rewritten
pub mod ReadsAs
