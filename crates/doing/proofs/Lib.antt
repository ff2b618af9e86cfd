pub mod Keeping
pub mod Calls
pub mod Refused
