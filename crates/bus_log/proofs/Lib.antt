pub mod Copy
pub mod Steps
pub mod Answers
pub mod Refusals
pub mod Advance
pub mod Helds
pub mod Parts
