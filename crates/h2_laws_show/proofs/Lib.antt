-- The lemmas of the laws.
pub mod BlockErrors
pub mod FirstItems
pub mod Groupings
pub mod LongerStreams
pub mod Outcomes
pub mod ReadingsOrFaults
pub mod Reports
pub mod ShownFrames
pub mod SoundFrames
pub mod WrongFrames
