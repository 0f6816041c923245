pub mod Commands
pub mod Gets
pub mod GetsSeveral
pub mod Rates
