pub mod GroupLemmas
pub mod PartialBlockLemmas
mod Examples
pub mod RunLemmas
pub mod SpreadLemmas
pub mod SpreadLengths
