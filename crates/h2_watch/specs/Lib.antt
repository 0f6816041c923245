pub mod Watches
pub mod WatchedLinks
