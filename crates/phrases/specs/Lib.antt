-- Acts and calls in words.
pub mod Acts
