pub mod System
pub mod Query
pub mod Joined
