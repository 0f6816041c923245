-- For what memory may be refused to an end that takes octets: to keep the octets of a frame that is
-- cut in two, for a frame whose step needs some, and to return credit. Nothing here is of the
-- standard: it says how little of what the peer has done being out of memory may hide.
-- contract: h2_conn::Conn::take
use Rattle.std.specs.Prelude.{◌≡◌, ◌≢◌, ◌&&◌, nat_lt, Bool, true, false, ℕ, List, [], ◌++◌}
use Rattle.std.specs.Prelude.{length, None, ◌+◌}
use Rattle.h2_frame.specs.declared.head_faults.HeadFault.{HeadFault}
use Rattle.h2_frame.specs.Frames.{Frame, Data, Reset, Settings, Ping}
use Rattle.h2_frame.specs.Encoding.{payload_of}
use Rattle.h2_wire.specs.Streams.{preface, GoesPastPreface}
use Rattle.h2_wire.specs.Cutter.{CutterState, FaultsAtHead, BeginsWithFrame, saturated}
use Rattle.h2_block.specs.Grouping.{Item, alone, block}
use Rattle.h2_spec_log.specs.Settings.{is_server, payload_limit}
use Rattle.h2_spec_log.specs.Log.{Log, acked}
use Rattle.h2_spec_log.specs.LogView.{log_view}
use Rattle.h2_spec_log.specs.View.{View, ended_out, owed_on}
use Rattle.h2_spec_log.specs.Verdicts.{Verdict, ConnectionFault, StreamFault, NoEvent, Reported}
use Rattle.h2_spec_log.specs.CallRules.{returns_credit}
use Rattle.h2_spec_log.specs.ItemRules.{FrameStep, fails_with, begins_block, completes}
use Rattle.h2_spec_log.specs.ItemRules.{frame_step, verdict_of}

-- Whether the end of a stream takes memory: where what is owed on it is returned at once.
-- rule: 6.9 What a stream owes is returned when it is released or over
abbrev pub credit_needs_memory : View → ℕ → Bool
credit_needs_memory view id = returns_credit (owed_on (view.stream id)) view.waiting

-- Whether a step may take memory for an item with this verdict: where the item is a field block, is
-- replied to, or is a fault of a stream; or where credit is returned, for DATA that is discarded or
-- with which a stream is over, or for a stream that the peer resets. A fault of the connection
-- takes none, so that being out of memory hides none.
-- rule: 5.4 (own) Being out of memory hides no other fault of the connection
-- rule: 5.4 (own) Only blocks, replies, resets and returned credit take memory
abbrev pub needs_memory : View → Verdict → Item → Bool
needs_memory view (StreamFault code) item = true
needs_memory view NoEvent (alone (Data stream end octets pad)) =
    returns_credit (length (payload_of (Data stream end octets pad))) view.waiting
needs_memory view NoEvent (alone (Settings false pairs)) = true
needs_memory view NoEvent (alone (Ping false octets)) = true
needs_memory view Reported (alone (Data stream end octets pad)) =
    end && ended_out (view.stream stream)
    && returns_credit (owed_on (view.stream stream)
    + length (payload_of (Data stream end octets pad))) view.waiting
needs_memory view Reported (alone (Reset stream code)) = credit_needs_memory view stream
needs_memory view Reported (block stream end octets) = true
needs_memory view verdict item = false

-- Whether a frame with this step may take memory, by the view of the end outside of field blocks: a
-- part of a field block always may, to gather and decode it; any other frame only where its verdict
-- needs it, and one that fails the connection before it is an item never does.
-- rule: 5.4 (own) Only blocks, replies, resets and returned credit take memory
abbrev pub step_needs_memory : View → FrameStep → Bool
step_needs_memory view (fails_with code) = false
step_needs_memory view (begins_block begun) = true
step_needs_memory view (completes (block stream end octets)) = true
step_needs_memory view (completes (alone frame)) =
    needs_memory view (verdict_of view None (alone frame)) (alone frame)

-- whether a frame that comes next may take memory
abbrev pub frame_needs_memory : Log → Frame → Bool
frame_needs_memory log frame =
    step_needs_memory (log_view (record log { begun = None })) (frame_step (log_view log) frame)

-- what cuts the octets that come next: whether the preface is complete, what is unparsed, and the
-- limit of payloads; nothing reads the greatest limit of it
abbrev pub cutter_of : Log → CutterState
cutter_of log =
    record {
      limit = payload_limit (acked log) log.sent;
      greatest = payload_limit (acked log) log.sent;
      in_preface = is_server log.role && nat_lt (length log.input) (length preface);
      unparsed = log.unparsed;
      kept = log.unparsed;
      place = saturated (length log.input);
      fault = None;
    }

-- Of these octets some have to be kept, since a frame is cut in two, by their end or by that of
-- earlier ones. Of the preface nothing is kept. A head at fault is known by its ninth octet,
-- whatever memory there is, and a frame that lies whole in the octets is taken from there.
-- rule: 3.4 (own) No octet of the preface is stored, so memory is not refused in it
-- rule: 4.1 (own) A frame whole in its piece is lent from there and takes no memory
-- rule: 4.2 A fault of a head is known at its ninth octet, whatever memory is
pub record KeepsOctets (log : Log) (octets : List ℕ) : Type 0 where
  pub some : octets ≢ []
  pub past_preface : (cutter_of log).in_preface ≡ true → GoesPastPreface (log.unparsed ++ octets)
  pub no_faulty_head : (fault : HeadFault) → FaultsAtHead (cutter_of log) octets fault → ⊥
  pub cut_in_two : BeginsWithFrame (cutter_of log) octets → ⊥
