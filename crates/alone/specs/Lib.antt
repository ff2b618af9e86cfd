-- One replica alone, with its tree in memory that it owns.
pub mod Standing
pub mod Turning
