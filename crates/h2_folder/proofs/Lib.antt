mod AnswerLemmas
mod LineLemmas
mod LogLemmas
mod RecentLemmas
