-- DATA that comes, as a frame.
use Rattle.std.specs.Prelude.{ℕ, Option}
use Rattle.h2_frame.specs.Frames.{Frame, Data}
use Rattle.h2_core.specs.declared.receive.DataFrame.{DataFrame}

-- the frame, with padding of this length, or none
abbrev pub frame_of_data : DataFrame → Option ℕ → Frame
frame_of_data frame pad = Data frame.stream frame.end frame.octets.now pad
