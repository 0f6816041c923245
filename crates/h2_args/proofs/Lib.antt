pub mod RequiredLemmas
pub mod GivenLemmas
pub mod CommandLemmas
pub mod OptionLemmas
pub mod NumberOptionLemmas
pub mod examples
pub mod Names
