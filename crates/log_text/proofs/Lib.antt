pub mod Decimals
pub mod Stores
pub mod Lines
pub mod Joins
pub mod Renderings
