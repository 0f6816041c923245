-- What an end that has failed has written last (RFC 9113, section 5.4.1).
use Rattle.std.specs.Prelude.{◌≡◌, ◌≤◌, ◌⊎◌, ℕ, List, [], ◌∷◌, ◌++◌}
use Rattle.h2_frame.specs.declared.code.Code.{Code}
use Rattle.h2_frame.specs.Codes.{code_number}
use Rattle.h2_frame.specs.Frames.{Frame, GoAway}
use Rattle.h2_frame.specs.Encoding.{encoding_of, stream_of}
use Rattle.h2_block.specs.Grouping.{Item, alone}
use Rattle.h2_spec_log.specs.Log.{Log, last_processed}

-- The last stream is the greatest that was processed, or that of the last frame: that frame's block
-- may open a stream and be a fault of the connection at once.
-- rule: 5.4.1 A connection error is answered by GOAWAY, and nothing is sent after
abbrev pub IsLastStream : Log → ℕ → Type 0
IsLastStream log last =
    (last ≡ last_processed log)
    ⊎ ((prefix : List Frame) × (frame : Frame) × (log.frames ≡ prefix ++ frame ∷ [])
    × (last ≡ stream_of frame))

-- The newest item is GOAWAY with the code. Its last stream is the greatest that was processed, or a
-- greater one, that of the last frame. And its octets are the last of the output.
-- rule: 5.4.1 A connection error is answered by GOAWAY, and nothing is sent after
pub record EndsInGoAway (log : Log) (code : Code) : Type 0 where
  pub last : ℕ
  pub earlier : List Item
  pub prefix : List ℕ
  pub newest : log.sent ≡ alone (GoAway last (code_number code) []) ∷ earlier
  pub processed : last_processed log ≤ last
  pub exact : IsLastStream log last
  pub written : log.written ≡ prefix ++ encoding_of (GoAway last (code_number code) [])
