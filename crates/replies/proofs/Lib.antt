-- The steps of the loops that tell what they read, and answers that were read in words.
pub mod Telling
pub mod Spellings
pub mod Shapes
