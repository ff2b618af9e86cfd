pub mod Decided
pub mod Accepts
