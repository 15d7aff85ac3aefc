pub mod Order
pub mod Range
pub mod Members
pub mod Extreme
pub mod Membership
pub mod SideBySide
pub mod PassedLines
