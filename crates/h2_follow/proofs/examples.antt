-- Worked examples: the limits in force for a side after frames of both sides. Each example computes:
-- a definition that says otherwise is refused.
pub mod Limits
