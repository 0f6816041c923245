pub mod ConfigValues
pub mod Configs
pub mod Credit
pub mod Settings
pub mod Window
