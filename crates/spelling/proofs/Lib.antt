-- Spelling one behind the other, and a part of the bytes in a room.
pub mod Characters
pub mod Loops
