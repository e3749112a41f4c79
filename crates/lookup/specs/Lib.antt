pub mod Orders
pub mod Lookup
