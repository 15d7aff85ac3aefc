pub mod Pages
pub mod Outcome
