-- How many frames have come that cost the peer little: RST_STREAM, PING and SETTINGS that are to be
-- answered, and frames that say nothing (RFC 9113, section 10.5).
use Rattle.std.specs.Prelude.{ℕ, ◌==◌, ◌&&◌, not, min, Bool, true, false, List, length, count_by}
use Rattle.h2_frame.specs.Frames.{Frame, Data, Headers, Reset, Settings, Ping}
use Rattle.h2_frame.specs.Frames.{Continuation}

-- whether it is RST_STREAM (section 6.4)
abbrev pub is_reset_frame : Frame → Bool
is_reset_frame (Reset stream code) = true
is_reset_frame frame = false

-- Whether it says nothing: DATA without octets, whatever its padding, that does not end its
-- stream; or a part of a field block without octets that does not end the block.
abbrev pub is_empty_frame : Frame → Bool
is_empty_frame (Data stream end octets pad) = length octets == 0 && not end
is_empty_frame (Headers stream end whole fragment pad priority) = length fragment == 0 && not whole
is_empty_frame (Continuation stream whole fragment) = length fragment == 0 && not whole
is_empty_frame frame = false

-- whether it is PING that is to be answered, and no answer (section 6.7)
abbrev pub is_asking_ping : Frame → Bool
is_asking_ping (Ping ack octets) = not ack
is_asking_ping frame = false

-- whether it is SETTINGS that are to be acknowledged, and no acknowledgment (section 6.5)
abbrev pub is_asking_settings : Frame → Bool
is_asking_settings (Settings ack pairs) = not ack
is_asking_settings frame = false

-- how many of these frames are RST_STREAM
-- rule: 10.5 (own) Frames that cost a peer little are counted
abbrev pub resets_among : List Frame → ℕ
resets_among frames = count_by is_reset_frame frames

-- how many of them say nothing
-- rule: 10.5 (own) Frames that cost a peer little are counted
abbrev pub empty_among : List Frame → ℕ
empty_among frames = count_by is_empty_frame frames

-- how many of them are PING that is to be answered
-- rule: 10.5 (own) Frames that cost a peer little are counted
abbrev pub pings_among : List Frame → ℕ
pings_among frames = count_by is_asking_ping frames

-- how many of them are SETTINGS that are to be acknowledged
-- rule: 10.5 (own) Frames that cost a peer little are counted
abbrev pub settings_among : List Frame → ℕ
settings_among frames = count_by is_asking_settings frames

-- so many, and at most the greatest number of 32 bits
abbrev pub counted : ℕ → ℕ
counted n = min n 4294967295
