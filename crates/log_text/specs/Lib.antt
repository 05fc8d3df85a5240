pub mod Decimal
pub mod Line
pub mod Stretch
pub mod Storing
pub mod Text
