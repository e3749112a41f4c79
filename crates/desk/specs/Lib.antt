pub mod Printed
pub mod Covering
pub mod Events
pub mod Effects
pub mod Answered
pub mod Output
