pub mod Least
pub mod Broken
pub mod Ranks
pub mod Sound
pub mod Lowest
pub mod Best
pub mod Plans
pub mod Examples
