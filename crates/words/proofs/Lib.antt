-- The steps of the loops that read.
pub mod WordSteps
pub mod Many
pub mod Faults
