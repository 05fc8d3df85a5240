pub mod Received
pub mod Acts
