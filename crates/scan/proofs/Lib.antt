pub mod Ends
pub mod Rises
pub mod Scans
pub mod Uniques
pub mod Bounds
