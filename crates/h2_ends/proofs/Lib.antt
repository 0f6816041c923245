pub mod EndTokens
pub mod EndParts
mod EndSteps
pub mod InSteps
pub mod TableSteps
mod ControlSteps
pub mod ControlStart
mod ControlForgets
mod TakeActive
mod TakeInStep
pub mod TakeRefusing
mod TakeReads
mod TakeHands
mod TakeMemory
mod TakeSteps
mod RequestTable
mod RequestSteps
mod RequestGiven
pub mod RequestSent
pub mod RequestHeads
mod RequestRefusals
mod RequestSends
mod RequestOpens
mod RespondHeads
pub mod PumpWindows
mod PumpRefusals
pub mod PumpStuck
pub mod PumpSteps
mod PumpStays
pub mod PumpTokens
mod PumpEnds
mod ReleaseSteps
pub mod PartBegins
mod PartLengths
pub mod PartSends
mod PartAnswers
pub mod Unsent
mod PumpCalls
mod PumpSends
mod SendingRelease
mod SendingBody
mod SendingStreams
mod SendingPump
mod ShareSteps
mod ShareTrailers
mod ShareCases
mod ShareIdle
mod PassBegins
mod PassSteps
mod PassEnds
mod TurnOrder
mod TurnShares
mod TurnSends
mod QuietOwes
mod QuietRoom
mod QuietSends
mod QuietEnds
pub mod ReadableParts
pub mod SoundParts
mod LentStreams
pub mod MessageTokensPlaced
pub mod MessageTokensSaid
pub mod EndOrder
pub mod Names
