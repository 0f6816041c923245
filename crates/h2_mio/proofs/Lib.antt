mod OwnRuns
mod OwnMoves
