pub mod Profile
pub mod Machine
