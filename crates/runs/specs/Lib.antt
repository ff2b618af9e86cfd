pub mod Replicas
pub mod Room
pub mod Progress
pub mod Carrying
pub mod Order
