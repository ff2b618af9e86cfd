-- The last of what is written one behind the other, and tests of all elements.
pub mod Pushes
pub mod Tested
