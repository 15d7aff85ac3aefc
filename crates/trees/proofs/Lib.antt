pub mod Halves
pub mod Children
pub mod Built
pub mod Universal
pub mod Every
pub mod Counts
pub mod Widen
