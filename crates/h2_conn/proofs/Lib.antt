-- The parts of a connection without the reason of its failure.
mod PartsFit
-- What attributes of the code unfold.
pub mod Rules
-- Why a connection has failed.
pub mod Reasons
pub mod ReasonVerdicts
pub mod ReasonCodes
pub mod WhyCalls
-- What is seen of an end that fails.
mod WhySeen
-- The parts of a connection where its cutter is left as it is.
pub mod AskLimits
-- The parts where the limit of payloads is set.
mod SetLimits
-- The parts of a connection after calls.
pub mod AskCalls
mod CountsFlow
pub mod AskSound
pub mod AskOutput
pub mod AskRefusing
-- The readers of a connection.
pub mod AskReaders
pub mod AskNumbers
-- Calls that take no memory.
pub mod AskMemory
-- Frames that are taken, and the octets that are kept of them.
mod TakeFrames
-- What is reported of a frame.
mod TakeReports
-- Where a fault of the stream is made.
mod TakeFaults
-- Refused memory, as octets are taken.
mod TakeMemory
mod TakeParts
-- The values of an end stay sound.
mod TakeSound
-- A new end.
mod TakeStart
pub mod Names
-- Worked rows.
mod examples
-- Parts of what waits.
pub mod WaitingParts
