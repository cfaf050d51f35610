mod Parts
mod Refusals
mod Alike
mod Ended
mod Cached
mod Answers
mod Surveyed
mod Counted
