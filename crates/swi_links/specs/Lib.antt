pub mod Chains
pub mod Tied
pub mod Laws
pub mod Holders
pub mod Lists
pub mod Undone
pub mod Tells
pub mod Gone
