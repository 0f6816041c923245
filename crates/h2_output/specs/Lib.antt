pub mod Output
pub mod Woven
