pub mod Rooms
pub mod Keeps
pub mod Range
