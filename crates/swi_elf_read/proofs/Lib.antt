pub mod Scans
pub mod Segments
pub mod AcceptedFacts
