pub mod InUse
pub mod Whole
