-- Worked examples: what words after a command's name give. Each computes: a definition that says
-- otherwise is refused.
pub mod ShowWords
pub mod SocketWords
pub mod GetWords
pub mod HostWords
pub mod WindowSizes
pub mod ReplayWords
pub mod ProgramWords
