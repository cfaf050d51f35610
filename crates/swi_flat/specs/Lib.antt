pub mod Advanced
pub mod Coasted
pub mod FlatData
pub mod Laws
pub mod Ran
pub mod FlatView
