pub mod Met
pub mod Search
