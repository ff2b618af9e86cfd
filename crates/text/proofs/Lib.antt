-- The steps of the loops that read and write, and that what is written reads back.
pub mod HexSteps
pub mod DecimalSteps
pub mod WordSteps
pub mod Appends
pub mod Back
pub mod Loops
