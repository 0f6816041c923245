pub mod Answered
pub mod Endings
pub mod Serving
