pub mod Sums
pub mod Registers
pub mod Openings
pub mod Conserve
pub mod Clearing
pub mod Worked
