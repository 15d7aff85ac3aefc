pub mod Sizes
pub mod Searches
pub mod Lines
pub mod Places
pub mod Refusals
pub mod Thresholds
pub mod RoundTrip
pub mod KindBytes
