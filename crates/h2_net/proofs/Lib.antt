pub mod EmptyLists
mod DefaultValues
mod HeldLemmas
pub mod HostBrackets
pub mod Names
mod PostedRequest
mod PostingLemmas
pub mod Printing
mod PartsSent
mod ReadingLemmas
pub mod SendingLemmas
mod ServingLemmas
pub mod examples
mod FieldValues
