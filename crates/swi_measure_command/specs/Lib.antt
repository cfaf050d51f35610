pub mod MeasureMade
