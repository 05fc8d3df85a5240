pub mod Gaps
pub mod Running
