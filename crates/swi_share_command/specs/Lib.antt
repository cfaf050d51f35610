pub mod RunShared
