pub mod Bounds
pub mod Machines
pub mod Ranges
