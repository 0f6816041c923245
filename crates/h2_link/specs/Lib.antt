pub mod Links
pub mod Memory
