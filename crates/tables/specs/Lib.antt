pub mod Owners
pub mod Rows
pub mod Tables
