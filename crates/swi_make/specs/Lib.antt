pub mod Numbers
pub mod Listing
pub mod Made
