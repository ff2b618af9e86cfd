-- What a call leaves in memory, and the first tree.
pub mod Turns
pub mod Blank
