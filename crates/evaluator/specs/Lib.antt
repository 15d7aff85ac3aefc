pub mod ByLevels
pub mod Sides
