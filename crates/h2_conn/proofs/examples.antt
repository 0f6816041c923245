-- Worked rows of the reasons for which a connection fails. Each computes: a definition that says
-- otherwise is refused.
mod Reasons
