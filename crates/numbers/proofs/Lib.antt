pub mod Little
pub mod Codec
