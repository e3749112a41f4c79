pub mod Balances
pub mod Opened
pub mod Desks
pub mod Reserves
pub mod Calls
pub mod Closed
