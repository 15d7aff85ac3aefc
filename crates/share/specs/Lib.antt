pub mod Rounding
pub mod Share
