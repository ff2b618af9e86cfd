-- Names, paths and values in words, and what the values of the code stand for.
pub mod Values
pub mod Words
