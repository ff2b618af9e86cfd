pub mod TreesAgain
pub mod MessagesAgain
pub mod TreesBack
pub mod MessagesBack
pub mod Sending
pub mod Standing
pub mod Whole
