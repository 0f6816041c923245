-- What the rules of an end look at. An end's log is viewed so (LogView), and so is the machine that
-- represents it; each rule is stated once, over a view.
use Rattle.std.specs.Prelude.{ℕ, Bool, false, ℤ, List, Option, Some, None}
use Rattle.hpack.specs.Lists.{EncoderState}
use Rattle.h2_frame.specs.declared.code.Code.{Code}
use Rattle.h2_block.specs.Grouping.{Begun}
use Rattle.h2_spec_log.specs.declared.role.Role.{Role}
use Rattle.h2_spec_log.specs.States.{State}

-- an active stream
pub record StreamView : Type 0 where
  -- what this end may send on it, and what the peer may (RFC 9113, section 6.9.1); SETTINGS can
  -- make them negative
  pub send_window : ℤ
  pub recv_window : ℤ
  -- octets that were reported and aren't released yet
  pub owed : ℕ
  -- whether the peer has sent END_STREAM on it, and whether this end has
  pub ended_in : Bool
  pub ended_out : Bool

pub record View : Type 0 where
  pub role : Role
  -- the code with which the connection failed
  pub failed : Option Code
  -- whether the first frame has come
  pub started : Bool
  -- the field block that has begun
  pub begun : Option Begun
  -- the state of each stream number, and the stream where it is active
  pub state : ℕ → State
  pub stream : ℕ → Option StreamView
  -- whether this initial window would bring the send window of some active stream above the
  -- greatest
  pub overflows : ℕ → Bool
  pub active_count : ℕ
  -- how many streams of the peer's may be active at once, at a server; and how many of its own a
  -- client may have
  pub max_streams : ℕ
  pub streams_allowed : ℕ
  -- the number for the next stream that a client opens; 0 at a server
  pub next_number : ℕ
  -- the greatest number of a peer's stream that was processed, or 0
  pub last_processed : ℕ
  -- what this end may send on the connection, and what the peer may
  pub send_window : ℤ
  pub recv_window : ℤ
  -- how much the peer may send on the connection before any of it is returned
  pub granted : ℕ
  -- octets of discarded DATA and of closed streams that are still to be returned by WINDOW_UPDATE
  -- on stream 0 (section 6.9)
  pub unreturned : ℕ
  -- whether GOAWAY was sent, and the least last stream of those received (section 6.8)
  pub goaway_sent : Bool
  pub goaway_received : Option ℕ
  -- whether own SETTINGS await their acknowledgment
  pub settings_wait : Bool
  -- the octets of an own PING that awaits its answer
  pub ping : Option (List ℕ)
  -- how many streams this end has reset
  pub resets : ℕ
  -- how many octets of output wait
  pub waiting : ℕ
  -- the most octets of a payload that this end sends
  pub max_payload : ℕ
  -- the greatest frame of the own SETTINGS that were written last (section 6.5.2)
  pub max_frame_written : ℕ
  pub encoder : EncoderState

-- whether the peer has ended the stream, where it is active: for this end it is half-closed
-- (remote) (section 5.1)
-- rule: 5.1 (own) h2_flow: each side of a stream ends once, and only that side
abbrev pub ended_in : Option StreamView → Bool
ended_in None = false
ended_in (Some stream) = stream.ended_in

-- whether this end has: it is half-closed (local)
-- rule: 5.1 (own) h2_flow: each side of a stream ends once, and only that side
abbrev pub ended_out : Option StreamView → Bool
ended_out None = false
ended_out (Some stream) = stream.ended_out

-- what is owed on it
abbrev pub owed_on : Option StreamView → ℕ
owed_on None = 0
owed_on (Some stream) = stream.owed
