pub mod Seating
pub mod Refusing
