pub mod LineRecords
pub mod Sections
