pub mod RightFiles
pub mod ReadBack
