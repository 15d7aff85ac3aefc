pub mod Listed
pub mod Dictionary
pub mod Tested
pub mod Universal
pub mod Digits
pub mod Scan
pub mod Passed
