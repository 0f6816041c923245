-- The lemmas of settings and windows.
pub mod Rules
pub mod examples
