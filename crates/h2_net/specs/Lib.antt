pub mod Endings
pub mod Fetching
pub mod Locations
pub mod Loopback
pub mod Printing
pub mod Serving
pub mod StreamLinks
