pub mod Records
pub mod Faults
pub mod Outcomes
