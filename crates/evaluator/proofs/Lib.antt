pub mod LookedLines
pub mod Needs
pub mod OuterLevels
pub mod DecidedLines
