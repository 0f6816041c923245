pub mod GivesLemmas
pub mod TakesLemmas
pub mod PartsLemmas
