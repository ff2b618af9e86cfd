-- Answers in words.
pub mod Answers
pub mod ByShape
pub mod Reading
pub mod Telling
