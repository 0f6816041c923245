-- What is seen of an end before a frame, and after one that has failed it, is what its log says.
use Rattle.h2_conn.proofs.Names.{◌≡◌, ◌∙◌, ℕ, Bool, true, false, Option, Some, None, refl, sym, ap}
use Rattle.h2_conn.proofs.Names.{Code, Frame, Item, Verdict, ConnectionFault, Decoded, FrameStep}
use Rattle.h2_conn.proofs.Names.{fails_with, begins_block, completes, frame_step, verdict_of, View}
use Rattle.h2_conn.proofs.Names.{Values, Log, log_view, End, end_view, with_begun}
use Rattle.h2_conn.proofs.Names.{Represents, views_alike, none_some, length, option_map, ◌||◌}
use Rattle.h2_conn.proofs.Names.{nat_lt}
use Rattle.std.proofs.Common.{◌==◌, ◌%◌, pos, ap₂}
use Rattle.std.specs.FinMap as map
use Rattle.std.specs.Option.{option_map_or}
use Rattle.h2_block.specs.Grouping.{Begun}
use Rattle.h2_spec_log.specs.Verdicts.{StreamFault, NoEvent, Reported}
use Rattle.h2_spec_log.specs.ItemRules.{is_idle}
use Rattle.h2_spec_machine.specs.End.{active_entry, reset_entry, StreamEntry, Streams, state_at}
use Rattle.h2_spec_machine.specs.End.{state_by_entry, is_above_goaway, ConnectionWindows}
use Rattle.h2_spec_machine.specs.End.{PeerSettings, any_above}
use Rattle.h2_spec_machine.specs.Machine.{after_frame, after_step, after_verdict}
use Rattle.h2_laws_machine.proofs.AlikeFrames.{state_alike, overflows_alike}
use Rattle.h2_core.specs.Frames.{FrameFails}
use Rattle.h2_core.proofs.FrameFailures.{verdict_up}
use Rattle.h2_conn.specs.Seen.{SeesBefore, SeesAfter}
use Rattle.h2_conn.specs.declared.why_of_frame.Before.{Before}

-- What a failure leaves as it was.
record Stands (e new : End) : Type 0 where
  pub role : new.role ≡ e.role
  pub streams : new.streams ≡ e.streams
  pub windows : new.windows ≡ e.windows
  pub peer : new.peer ≡ e.peer

verdict_stands : (e : End) (decoded : Option Decoded) (item : Item) (verdict : Verdict)
    (code : Code) → e.failed ≡ None → (after_verdict e decoded item verdict).failed ≡ Some code
    → Stands e (after_verdict e decoded item verdict)
unfolding after_verdict
verdict_stands e decoded item (ConnectionFault fault) code up fails =
    record { role = refl; streams = refl; windows = refl; peer = refl }
verdict_stands e decoded item (StreamFault fault) code up fails =
    none_some code (sym (verdict_up e decoded item (StreamFault fault) (λ c is. cc) ∙ up) ∙ fails)
verdict_stands e decoded item NoEvent code up fails =
    none_some code (sym (verdict_up e decoded item NoEvent (λ c is. cc) ∙ up) ∙ fails)
verdict_stands e decoded item Reported code up fails =
    none_some code (sym (verdict_up e decoded item Reported (λ c is. cc) ∙ up) ∙ fails)

step_stands : (e : End) (decoded : Option Decoded) (step : FrameStep) (code : Code)
    → e.failed ≡ None → (after_step e decoded step).failed ≡ Some code
    → Stands e (after_step e decoded step)
unfolding after_step
step_stands e decoded (fails_with fault) code up fails =
    record { role = refl; streams = refl; windows = refl; peer = refl }
step_stands e decoded (begins_block begun) code up fails = none_some code (sym up ∙ fails)
step_stands e decoded (completes item) code up fails =
    let other : End = with_begun e None in
    let s = verdict_stands other decoded item (verdict_of (end_view other) decoded item) code up
    fails in
    record { role = s.role; streams = s.streams; windows = s.windows; peer = s.peer }

-- A frame that fails an end.
frame_stands : (e : End) (decoded : Option Decoded) (frame : Frame) (code : Code)
    → e.failed ≡ None → (after_frame e decoded frame).failed ≡ Some code
    → Stands e (after_frame e decoded frame)
unfolding after_frame
frame_stands e decoded frame code up fails =
    step_stands e decoded (frame_step (end_view e) frame) code up fails

-- Whether a number is idle doesn't hang on the own GOAWAY.
idle_by : (entry : Option StreamEntry) (idle above other : Bool)
    → is_idle (state_by_entry entry idle above) ≡ is_idle (state_by_entry entry idle other)
idle_by (Some (active_entry stream)) idle above other = refl
idle_by (Some reset_entry) idle above other = refl
idle_by None true above other = refl
idle_by None false true true = refl
idle_by None false true false = refl
idle_by None false false true = refl
idle_by None false false false = refl

idle_same : (e new : End) (id : ℕ) → new.streams ≡ e.streams
    → is_idle (state_at new id) ≡ is_idle (state_at e id)
idle_same e new id same =
    ap (λ (s : Streams). is_idle (state_by_entry (map.get s.entries id)
    (id % 2 == 0 || nat_lt s.highest id) (is_above_goaway new id))) same
    ∙ idle_by (map.get e.streams.entries id) (id % 2 == 0 || nat_lt e.streams.highest id)
    (is_above_goaway new id) (is_above_goaway e id)

-- Whether an initial window brings a stream's above the greatest hangs on the streams and on the
-- one in force.
overflows_same : (e new : End) (initial : ℕ) → new.streams ≡ e.streams → new.peer ≡ e.peer
    → (end_view new).overflows initial ≡ (end_view e).overflows initial
overflows_same e new initial streams peer =
    ap₂ (λ (p : PeerSettings) (s : Streams). any_above p.initial_window initial
    (map.entries s.entries)) peer streams

-- Before a frame.
pub before_seen : (values : Values) (e : End) (log : Log) (before : Before)
    → Represents values e log → e.failed ≡ None → SeesBefore (end_view e) before
    → SeesBefore (log_view log) before
before_seen values e log before represents up sees =
    let run = represents.running up in
    record {
      started = sees.started ∙ run.started;
      stream = sees.stream
          ∙ ap (option_map (λ (begun : Begun). begun.stream)) run.reading.begun;
      octets = sees.octets
          ∙ ap (λ (b : Option Begun). option_map_or (λ (begun : Begun). length begun.octets) b 0)
          run.reading.begun;
    }

-- After a frame that has failed the end.
pub after_seen : (values : Values) (e other : End) (log : Log) (frame : Frame) (code : Code)
    → Represents values e log → e.failed ≡ None → FrameFails e frame code other
    → SeesAfter (log_view log) other
after_seen values e other log frame code represents up h =
    let stands = frame_stands e h.decoded frame code up h.fails in
    let streams : other.streams ≡ e.streams = h.after.streams ∙ stands.streams in
    let peer : other.peer ≡ e.peer = h.after.peer ∙ stands.peer in
    let views = views_alike values e log represents up in
    record {
      role = h.after.role ∙ stands.role ∙ represents.role;
      idle = λ id. idle_same e other id streams
          ∙ ap is_idle (state_alike values e log id represents up);
      window = ap (λ (w : ConnectionWindows). pos w.recv) (h.after.windows ∙ stands.windows)
          ∙ ap (λ (view : View). view.recv_window) views;
      resets = ap (λ (s : Streams). s.resets) streams ∙ ap (λ (view : View). view.resets) views;
      overflows = λ initial. overflows_same e other initial streams peer
          ∙ overflows_alike values e log initial represents up;
    }
