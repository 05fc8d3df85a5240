pub mod Sending
pub mod Events
