mod Answering
mod Stepping
mod Running
mod Files
