pub mod Faults
pub mod Streams
pub mod Cutter
pub mod Buffer
pub mod Step
