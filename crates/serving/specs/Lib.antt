pub mod Replying
pub mod Doing
