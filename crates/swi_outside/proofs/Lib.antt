pub mod SinkLemmas
pub mod SourceLemmas
pub mod ToldLemmas
