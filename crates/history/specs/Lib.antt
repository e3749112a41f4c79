pub mod Tally
pub mod History
pub mod Shares
pub mod Examples
