-- Lemmas on a connection that a handler serves over a link.
mod AskedStreams
mod CallsMade
mod HandedParts
mod OutputWithin
mod ServedEnds
mod Serving
mod StepsKeep
mod TurnsGiven
mod WrittenOutput
