pub mod Chosen
pub mod Ahead
pub mod Running
pub mod Promises
