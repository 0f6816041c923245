-- Worked examples: what words ask for and what is printed. Each computes: a definition that says
-- otherwise is refused.
pub mod AskedFor
pub mod PrintedLines
pub mod StreamWindows
