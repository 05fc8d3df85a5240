pub mod Store
pub mod Merging
