pub mod LineLemmas
pub mod ReplayLemmas
pub mod TakeLemmas
