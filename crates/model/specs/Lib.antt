pub mod File
pub mod Checks
pub mod Says
pub mod Held
pub mod Files
pub mod Kinds
