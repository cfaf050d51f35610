pub mod Runs
pub mod Standing
pub mod Undoing
pub mod Owning
pub mod Facts
pub mod Evicting
pub mod Arriving
pub mod Filling
pub mod Filled
pub mod Joining
pub mod Entering
pub mod Crossing
pub mod Dividing
pub mod Starting
pub mod Emptying
pub mod Stands
pub mod Counting
pub mod Leading
pub mod Bounding
mod Fewer
mod Unlinking
mod Calling
pub mod Repeating
mod Keeping
