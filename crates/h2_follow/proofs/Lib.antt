mod FollowLemmas
pub mod FollowerLemmas
mod GreatestLemmas
mod LinesLemmas
pub mod StretchLemmas
mod Names
pub mod PeakLemmas
pub mod SideLemmas
mod SidesLemmas
mod TextLemmas
pub mod examples
