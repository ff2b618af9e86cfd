pub mod Carrying
pub mod Kept
pub mod Orders
