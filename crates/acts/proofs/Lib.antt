pub mod Readings
pub mod Runs
pub mod Ends
