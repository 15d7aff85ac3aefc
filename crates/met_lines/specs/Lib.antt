pub mod Met
pub mod MetLines
