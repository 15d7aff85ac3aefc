pub mod Monotone
pub mod LineSets
pub mod Masks
pub mod Formed
pub mod WithoutOperands
pub mod Selected
pub mod JoinedLines
pub mod Joined
