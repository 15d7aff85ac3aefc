pub mod Answer
pub mod Check
