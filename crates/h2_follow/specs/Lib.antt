pub mod Peaks
pub mod FollowText
pub mod InForce
pub mod Unchecked
pub mod Stretches
pub mod Follows
pub mod Follower
pub mod Sides
