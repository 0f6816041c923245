-- The lemmas of the law.
pub mod Names
pub mod TurnMarks
pub mod SaidLogs
pub mod OneReason
