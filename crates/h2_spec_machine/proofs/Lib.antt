-- The lemmas on an end's streams, as the machine keeps them.
pub mod ChangedEntries
pub mod SetEntries
pub mod SortedEntries
