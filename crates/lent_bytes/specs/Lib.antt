pub mod Numbers
pub mod Paths
pub mod Writing
pub mod Writers
