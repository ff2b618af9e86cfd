-- Which letters are taken, and which stay; that an incarnation is a new one.
pub mod Kept
pub mod Fresh
