pub mod Grouping
pub mod Gather
pub mod Spread
pub mod PartialBlock
