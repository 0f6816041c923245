pub mod Codes
pub mod Heads
pub mod Pairs
pub mod Frames
pub mod Encoding
pub mod FrameParts
