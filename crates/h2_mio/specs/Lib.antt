pub mod DriverRuns
pub mod Moving
pub mod SocketPlaces
pub mod Waits
