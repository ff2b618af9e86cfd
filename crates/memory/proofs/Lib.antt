pub mod Waits
pub mod Sides
mod Firsts
pub mod Ranges
