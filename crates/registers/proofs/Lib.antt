pub mod Pools
pub mod Fresh
