pub mod Causes
pub mod Cuts
pub mod Upgrades
pub mod Drafts
