-- Calls in words.
pub mod Spelled
