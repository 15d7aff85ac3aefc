pub mod LentProp
pub mod Child
