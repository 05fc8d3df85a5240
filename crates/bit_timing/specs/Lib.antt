pub mod Timing
pub mod TimingCases
pub mod Pairs
