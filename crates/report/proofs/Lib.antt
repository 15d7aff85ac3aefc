pub mod Lines
pub mod Judgements
