pub mod Answers
pub mod Steps
pub mod Looking
pub mod Props
