pub mod Pairs
pub mod Directions
pub mod HeaderTables
pub mod Undisturbed
pub mod Tokens
pub mod Quiet
pub mod Steps
