pub mod Tree
pub mod Fit
pub mod Built
