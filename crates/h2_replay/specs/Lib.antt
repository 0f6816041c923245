pub mod Replay
pub mod Values
pub mod Taking
pub mod Calls
pub mod Recording
pub mod Joined
