pub mod Grows
pub mod Written
