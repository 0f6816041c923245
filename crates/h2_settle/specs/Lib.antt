pub mod Settling
pub mod RoundEndings
