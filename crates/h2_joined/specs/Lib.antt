pub mod Joints
pub mod Headline
pub mod Stored
pub mod Kept
pub mod Parts
pub mod Delivering
pub mod Runs
