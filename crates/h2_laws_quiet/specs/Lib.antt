pub mod OpenWindows
pub mod Arrived
pub mod Going
pub mod Work
pub mod Driving
pub mod Rounds
pub mod Room
pub mod MostRounds
