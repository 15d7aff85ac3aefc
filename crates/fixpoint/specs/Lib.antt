pub mod Values
pub mod Lawful
pub mod Levels
pub mod Nested
pub mod Restricted
pub mod Plain
pub mod Sets
pub mod Pairing
