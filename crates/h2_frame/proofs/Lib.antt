pub mod FrameLemmas
pub mod HeadLemmas
pub mod PaddingLemmas
pub mod PairLemmas
pub mod Rules
pub mod FramePartsLemmas
pub mod EncodingLemmas
pub mod RefusalLemmas
