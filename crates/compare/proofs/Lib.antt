pub mod Tests
pub mod Runs
pub mod Lists
pub mod Blocks
pub mod Whole
pub mod Mid
