pub mod Rounds
pub mod Places
pub mod Writes
pub mod PathBytes
pub mod Walks
pub mod Same
pub mod Above
pub mod Lasts
