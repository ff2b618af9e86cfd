pub mod Opens
pub mod Others
pub mod Ends
