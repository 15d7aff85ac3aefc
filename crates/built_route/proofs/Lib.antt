pub mod BuiltLevels
