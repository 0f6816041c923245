-- The lemmas of the output.
pub mod EncodingLemmas
pub mod PieceLemmas
pub mod Rules
pub mod WovenLemmas
