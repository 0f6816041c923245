pub mod BlockLemmas
pub mod ChoiceLemmas
mod Names
pub mod PendingTableLemmas
pub mod FieldLemmas
pub mod FieldListBuilderLemmas
mod RepeatedLemmas
pub mod FieldListLemmas
pub mod OwnedListLemmas
pub mod PrefixLemmas
pub mod HashLemmas
pub mod LimitLemmas
pub mod LookupLemmas
mod Examples
pub mod RingLemmas
pub mod RoomLemmas
pub mod SearchLemmas
pub mod Tests
pub mod WordLemmas
pub mod ChainLemmas
pub mod IndexLemmas
pub mod StaticChainLemmas
pub mod ResultLemmas
pub mod SizeLemmas
pub mod StateLemmas
pub mod StepLemmas
pub mod WritingLemmas
pub mod WrittenBlocks
pub mod WrittenFields
pub mod WrittenTables
