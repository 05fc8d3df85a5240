pub mod Instructions
pub mod Stages
pub mod Open
