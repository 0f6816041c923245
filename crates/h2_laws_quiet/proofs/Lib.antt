-- The lemmas of quiet ends.
pub mod QuietStreams
pub mod QuietWindows
pub mod QuietMessages
mod CallsOfPumps
mod PumpOctets
mod PumpSent
mod FewCounts
mod FewDue
mod FewFills
mod FewItems
mod FewCalls
mod FewTurns
mod FewWindows
mod FewReleases
mod FewData
mod FewFrames
mod FewRounds
mod FewSteps
mod FewPieces
mod FewProgress
mod FewEnds
mod FewRegular
pub mod FewQuiet
mod FewLaws
mod PumpFirst
pub mod PumpGoes
pub mod PumpCounts
pub mod WorkOfItems
pub mod WorkOfLogs
pub mod WorkOfTakes
pub mod WorkOfTokens
pub mod WorkOfEnds
mod WorkOfPasses
pub mod WorkOfDeliveries
pub mod WorkOfActs
mod OutputGiven
mod RoundSides
mod RoundWork
mod RoundActs
mod RoundSteps
pub mod RoundQuiet
pub mod ManyRounds
pub mod Arrivals
mod Examples
