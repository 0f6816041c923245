-- The lemmas of a replay.
pub mod Octets
pub mod StepOutput
pub mod StepTakes
pub mod TakingLemmas
pub mod AllLemmas
pub mod CallLemmas
pub mod RecordLemmas
pub mod JoinedLemmas
pub mod Names
