pub mod Format
pub mod Reading
pub mod Screening
pub mod Laws
pub mod Cases
