pub mod Columns
pub mod Meaning
pub mod Turns
pub mod Runs
pub mod Exact
pub mod Numbers
pub mod ReadBack
