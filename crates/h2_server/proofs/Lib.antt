-- Lemmas on a served connection.
mod Asked
mod Changed
mod ConnectionSteps
mod CreditReturned
mod CreditSteps
mod EndedExchanges
mod Expired
mod FailingCodes
mod FailingPhase
mod GoneOutput
mod KeptMaps
mod Resetting
mod StatusAlone
pub mod StepsMade
mod TakesFirst
mod Turned
mod TurnsMade
