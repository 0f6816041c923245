pub mod Names
pub mod Computing
pub mod StreamLemmas
pub mod DataFrames
pub mod EncodingLemmas
pub mod SentPayloads
pub mod examples
