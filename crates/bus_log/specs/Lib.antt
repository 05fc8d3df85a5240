pub mod Log
pub mod Run
pub mod Held
pub mod From
