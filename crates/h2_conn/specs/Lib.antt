pub mod Conn
pub mod Counts
pub mod Events
pub mod Parts
pub mod Loans
pub mod PeerRoom
pub mod Seen
pub mod Why
