pub mod Routes
pub mod Parts
