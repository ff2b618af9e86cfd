pub mod Acts
pub mod Many
pub mod Back
pub mod Screens
pub mod Again
pub mod WrittenAgain
