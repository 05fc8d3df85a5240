pub mod Kept
pub mod Regions
pub mod Falling
