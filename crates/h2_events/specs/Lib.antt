pub mod EventLines
pub mod Replayer
pub mod Report
