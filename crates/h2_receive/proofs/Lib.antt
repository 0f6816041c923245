-- Lemmas on a response that a handler hears.
mod Hearing
