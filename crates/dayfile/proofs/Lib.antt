pub mod Groups
mod Held
mod Places
pub mod Written
pub mod Reading
pub mod Following
pub mod Law
pub mod Loads
