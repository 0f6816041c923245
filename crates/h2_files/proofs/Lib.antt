mod CutLemmas
mod DigitLemmas
mod EscapeLemmas
mod LawLemmas
mod ResultLemmas
mod SegmentLemmas
mod StayLemmas
pub mod examples
