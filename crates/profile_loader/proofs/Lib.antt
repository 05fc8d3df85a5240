pub mod Logs
pub mod Entries
pub mod Ahead
pub mod Sessions
pub mod Turns
pub mod Going
