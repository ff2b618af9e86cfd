pub mod Tree
pub mod Laws
pub mod Cases
