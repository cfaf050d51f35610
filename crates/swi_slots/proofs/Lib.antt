pub mod Dividing
pub mod Clearing
pub mod Shapes
pub mod Filling
pub mod Missing
pub mod MissLinks
pub mod Arriving
pub mod Misses
pub mod Policy
pub mod Linking
pub mod Crossing
pub mod Empty
pub mod Calls
pub mod Rows
pub mod Unused
pub mod Turned
mod Targets
mod ClearingChains
mod Knowing
mod Seen
