pub mod Failed
pub mod Fetched
mod Boot
mod Services
pub mod Slotted
mod Ringed
pub mod Tells
pub mod Telling
mod ToldOn
mod Unasked
pub mod Starting
pub mod Ended
mod Within
pub mod Breaking
pub mod InSteps
