pub mod Answers
pub mod Agree
pub mod Forecast
