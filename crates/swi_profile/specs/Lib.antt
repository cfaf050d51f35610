pub mod Executions
pub mod Laws
pub mod Profiled
pub mod Totals
