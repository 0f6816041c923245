pub mod WordLemmas
pub mod InputLemmas
pub mod ProgramLemmas
pub mod GetLemmas
mod SeveralLemmas
pub mod SocketLemmas
mod RateLemmas
mod PageLemmas
pub mod examples
