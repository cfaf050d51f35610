pub mod RunAhead
