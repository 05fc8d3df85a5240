pub mod Step
pub mod Moments
pub mod Runs
pub mod Promise
pub mod Cases
pub mod ChipImage
pub mod Panel
