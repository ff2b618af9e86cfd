pub mod Layout
pub mod Props
pub mod Fits
pub mod Searches
pub mod Drafts
pub mod Entries
pub mod Walks
