pub mod End
pub mod Machine
pub mod Represents
