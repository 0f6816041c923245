-- The lemmas of driving two joined ends.
pub mod FailedEnds
pub mod Emptied
pub mod ActsMade
pub mod Driven
mod SettledQuiet
mod Examples
