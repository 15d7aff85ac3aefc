pub mod Part
pub mod Queue
