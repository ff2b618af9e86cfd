mod Shapes
pub mod Lawfulness
mod Ranges
mod Saying
pub mod Clerking
mod Makers
mod Promised
mod Steadiness
pub mod Over
