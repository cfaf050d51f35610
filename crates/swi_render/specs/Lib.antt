pub mod Rendering
pub mod ImageOf
pub mod Among
pub mod Cut
pub mod Loops
pub mod Carried
