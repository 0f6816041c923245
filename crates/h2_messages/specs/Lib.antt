pub mod PartLines
pub mod Rules
pub mod Messages
pub mod Taking
