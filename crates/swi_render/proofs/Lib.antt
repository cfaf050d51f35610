pub mod Lists
pub mod Runs
pub mod Stands
pub mod Carrying
