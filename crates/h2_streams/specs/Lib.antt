pub mod Codes
pub mod Streams
pub mod Table
