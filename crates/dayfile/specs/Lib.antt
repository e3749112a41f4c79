pub mod Groups
pub mod Rows
pub mod Kinds
pub mod DayPart
pub mod Description
pub mod Loads
