pub mod Faults
pub mod Written
pub mod Scan
pub mod Reading
pub mod Layout
pub mod Lines
pub mod Numbers
pub mod Examples
