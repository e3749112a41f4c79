pub mod Passed
pub mod Sound
