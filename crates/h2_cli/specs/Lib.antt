pub mod Hexadecimal
pub mod Status
pub mod Hints
