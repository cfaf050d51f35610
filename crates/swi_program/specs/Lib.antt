pub mod Program
pub mod Text
pub mod Layout
pub mod ProgramOf
pub mod Viewed
