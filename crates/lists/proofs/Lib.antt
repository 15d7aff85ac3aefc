pub mod Front
pub mod Below
