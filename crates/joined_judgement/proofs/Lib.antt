pub mod JoinedFiles
pub mod SideBySide
