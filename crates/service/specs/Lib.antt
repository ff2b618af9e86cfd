pub mod Service
pub mod Asking
pub mod Answering
pub mod Safe
pub mod Users
