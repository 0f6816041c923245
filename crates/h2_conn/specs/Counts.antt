-- What a connection keeps of the frames that have come.
use Rattle.std.specs.Prelude.{◌≡◌, ℕ, List, [], ◌∷◌, length}
use Rattle.h2_frame.specs.Frames.{Frame, Data}
use Rattle.h2_frame.specs.Encoding.{payload_of}
use Rattle.h2_spec_log.specs.Counted.{counted, resets_among, empty_among}
use Rattle.h2_spec_log.specs.Counted.{pings_among, settings_among}
use Rattle.h2_conn.specs.declared.counts.Counts.{Counts}

-- how many octets the payload of the last DATA had, padding included, after this frame (section
-- 6.1)
-- rule: 6.1 The complete payload of DATA, padding included, counts for windows
unfoldable pub flow_after : (before : ℕ) → Frame → ℕ
flow_after before (Data stream end octets pad) = length (payload_of (Data stream end octets pad))
flow_after before frame = before

-- how many the last DATA of these frames had, the first frame first, or the last one before them
unfoldable pub flow_of_last : (before : ℕ) → List Frame → ℕ
flow_of_last before [] = before
flow_of_last before (frame ∷ frames) = flow_of_last (flow_after before frame) frames

-- how many the last DATA of these frames had, 0 where there is none
abbrev pub last_flow : List Frame → ℕ
last_flow frames = flow_of_last 0 frames

-- These frames have been counted, and how long the payload of the last DATA was is known.
-- rule: 6.1 The complete payload of DATA, padding included, counts for windows
-- rule: 10.5 (own) Frames that cost a peer little are counted
pub record CountsFrames (counts : Counts) (frames : List Frame) : Type 0 where
  pub resets : counts.resets ≡ counted (resets_among frames)
  pub empty : counts.empty ≡ counted (empty_among frames)
  pub pings : counts.pings ≡ counted (pings_among frames)
  pub settings : counts.settings ≡ counted (settings_among frames)
  pub flow : counts.flow ≡ last_flow frames
