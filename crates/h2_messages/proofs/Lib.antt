mod PartLemmas
mod CallLemmas
mod TakeLemmas
mod InputLemmas
