-- Worked examples of two ends that are joined: calls and octets that are moved, against counts of
-- octets, what is under way, windows, tables and what is heard. The expected values are those of
-- RFC 9113 and RFC 7541, and of this profile's limits. Each example computes.
pub mod Steps
pub mod SmallPair
pub mod SmallPairComes
pub mod WrittenTokens
pub mod WrittenBlocks
pub mod TableLimitZero
pub mod Moves
pub mod Terms
pub mod ChangedTableLimit
pub mod ResetUnderWay
pub mod ChangedWindow
pub mod ResetUnderWayLists
