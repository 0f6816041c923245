-- Worked examples.
mod HalvesOfWindows
