pub mod Opening
pub mod Ending
