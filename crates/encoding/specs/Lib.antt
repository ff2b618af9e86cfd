-- Which calls can be written as bytes.
pub mod Fits
