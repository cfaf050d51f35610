pub mod Valid
pub mod Words
pub mod Canonical
-- what the public clauses cite of the crates below
pub use Rattle.swi_isa.specs.Decode
