pub mod Accepted
pub mod Passed
