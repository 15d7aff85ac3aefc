pub mod Search
pub mod Joined
