pub mod Named
pub mod Fronts
