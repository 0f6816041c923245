pub mod Ending
pub mod Guests
pub mod Logging
pub mod Noting
pub mod Serving
