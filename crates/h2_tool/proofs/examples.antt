-- Worked examples: how commands end. Each computes: a definition that says otherwise is refused.
pub mod SeveralStatuses
