pub mod Meaning
pub mod Registers
pub mod Sound
