-- Worked examples: paths, types, ranges and conditions. Each example computes: a definition that
-- says otherwise is refused.
pub mod Computing
pub mod Conditions
pub mod MediaTypes
pub mod Methods
pub mod Paths
pub mod Ranges
