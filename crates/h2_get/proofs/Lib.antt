pub mod Appending
mod Bodies
mod GatherLemmas
mod Receiving
mod RequestsMade
mod SeveralInOrder
mod SeveralParts
mod SeveralPrinting
mod StreamLemmas
pub mod examples
