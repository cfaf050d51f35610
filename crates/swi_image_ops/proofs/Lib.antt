pub mod Rows
pub mod Learning
pub mod Forms
pub mod Standing
pub mod Strides
