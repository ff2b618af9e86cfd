pub mod Tops
pub mod Seeks
pub mod Weighs
pub mod Looks
