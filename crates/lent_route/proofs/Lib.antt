pub mod FirstChild
pub mod LentLevels
