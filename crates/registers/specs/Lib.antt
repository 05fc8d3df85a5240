pub mod State
pub mod Registers
pub mod Errors
pub mod Modes
