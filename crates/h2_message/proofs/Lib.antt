mod LaneLemmas
mod Names
mod OctetLemmas
mod ClassLemmas
pub mod ReadingRules
pub mod PhaseSteps
pub mod PhaseWhole
pub mod ReadingWhole
mod ReadingSteps
mod PhaseEnds
mod ReadingHeads
mod ReadingParts
mod ReadingFollows
mod BrokenParts
pub mod LawSent
pub mod examples
mod BodyLengths
mod CheckBodies
mod CheckRules
mod ScanAdds
mod ScanLists
mod ScanNames
mod ScanPseudo
mod ScanRegular
mod ScanRequests
mod ScanResponses
mod VerdictMethods
mod VerdictRules
mod VerdictStatuses
mod MessageHeads
