-- Worked examples: the host that is connected to, and the query that `:path` says. Each example
-- computes: a definition that says otherwise is refused.
pub mod Locations
