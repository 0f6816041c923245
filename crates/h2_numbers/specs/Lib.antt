pub mod Entries
pub mod Lends
pub mod Tables
pub mod TableLends
