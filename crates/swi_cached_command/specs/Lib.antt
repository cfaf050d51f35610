pub mod RunCached
