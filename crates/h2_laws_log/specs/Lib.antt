pub mod Accepting
pub mod Sending
pub mod Payloads
pub mod Sums
pub mod Tables
pub mod Turns
