pub mod Accesses
pub mod Fronts
pub mod Gathered
pub mod Looks
pub mod StartText
pub mod Texts
pub mod Windowed
pub mod Written
