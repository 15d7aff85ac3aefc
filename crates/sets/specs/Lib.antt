pub mod Set
pub mod SideBySide
pub mod Extreme
