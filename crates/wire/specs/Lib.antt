pub mod Kinds
pub mod Trees
pub mod Messages
pub mod Memory
pub mod Laws
pub mod Whole
