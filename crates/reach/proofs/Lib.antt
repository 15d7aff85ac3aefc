pub mod Search
pub mod Following
