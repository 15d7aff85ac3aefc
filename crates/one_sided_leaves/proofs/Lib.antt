pub mod Blocks
pub mod Spanned
