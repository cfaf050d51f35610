pub mod Table
pub mod Decode
pub mod Laws
pub mod Kind
