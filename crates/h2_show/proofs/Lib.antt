pub mod BlocksLemmas
mod Names
pub mod ViewerLemmas
pub mod ReportLemmas
pub mod LinesLemmas
pub mod NamedLemmas
pub mod JsonLemmas
pub mod BlocksShown
pub mod PrefaceLemmas
pub mod PrintedLemmas
pub mod FaultLemmas
pub mod StyleLemmas
pub mod PieceLemmas
pub mod InputLemmas
pub mod PrintedText
pub mod examples
