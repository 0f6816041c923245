-- Facts of one end that its steps stand on.
mod SoundFacts
-- Short frames that an end writes.
mod StepFrames
-- Whether credit is returned.
mod StepCredit
-- The end after a step on a stream.
mod StepStreams
-- An end with a part of it changed.
mod StepEnds
-- When a layer above refuses a stream.
mod StepRefuse
-- Octets that are released.
mod StepRelease
mod ItemStatuses
mod ItemVerdicts
mod ItemPings
mod ItemWindows
mod ItemUpdates
mod ItemResets
mod ItemData
-- What DATA takes of the windows.
pub mod DataFlow
-- Field blocks and frames that are received.
pub mod FrameFailures
mod FrameGroups
mod FrameMemory
mod FrameTables
mod FrameTaking
mod FrameVerdicts
pub mod FrameWritable
-- Why calls are refused.
mod CallConditions
-- What calls add to the output.
mod CallOutput
-- The DATA frames of a body's octets.
mod CallData
-- Calls that send on an active stream.
mod CallSend
-- A number that is added to the streams, and taken away again.
mod CallMaps
-- Opening a stream.
mod CallOpen
-- Send windows that octets are taken of.
mod CallWindows
-- Facts of one end that its steps stand on.
mod OwnItems
mod OwnNumbers
mod OwnOutput
mod OwnSettings
pub mod Names
