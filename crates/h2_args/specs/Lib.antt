pub mod Commands
pub mod Words
pub mod Windows
