pub mod Compare
pub mod Block
