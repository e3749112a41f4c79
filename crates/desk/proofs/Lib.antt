mod Filling
pub mod Lines
pub mod Turns
pub mod Reached
pub mod Days
mod Places
