-- What a call of `take` adds to a log, octet by octet.
use Rattle.h2_replay.proofs.Names.{◌≡◌, ℕ, List, [], ◌∷◌, ◌++◌, map, Option, None, refl, sym, ap}
use Rattle.h2_replay.proofs.Names.{subst, ◌∙◌, append-nil, append_assoc, Item, Event, In, Out}
use Rattle.h2_replay.proofs.Names.{Happened, Log, with_unreturned, TakeAnswer, Took, Failed}
use Rattle.h2_replay.proofs.Names.{MayTake, log_after_take, each_octet, all_by_octets}
use Rattle.std.proofs.lemmas.List.{append_cancel_right}
use Rattle.h2_frame.specs.Frames.{Frame}
use Rattle.h2_spec_log.specs.Events.{UnprocessedEvent}
use Rattle.h2_spec_log.specs.Acts.{Turn}
use Rattle.h2_spec_log.specs.Log.{next_unprocessed}
use Rattle.h2_spec_log.specs.LogView.{log_view}
use Rattle.h2_spec_log.specs.Verdicts.{Verdict, ConnectionFault}
use Rattle.h2_spec_log.specs.ItemRules.{Decoded, FrameStep, fails_with, begins_block, completes}
use Rattle.h2_spec_log.specs.ItemRules.{frame_step}
use Rattle.h2_spec_log.specs.LogSteps.{used, read, with_reported, with_verdict, with_step}
use Rattle.h2_spec_log.specs.LogSteps.{with_frame}
use Rattle.h2_laws_end.specs.Takes.{has_failed, reports_unprocessed, ends_no_frame, ends_frame}
use Rattle.h2_laws_end.specs.Takes.{meets_fault, runs_out_of_memory, events_answered, AfterTake}
use Rattle.h2_replay.proofs.StepOutput.{both_joined, AddsOutput, writes_none, writes_more}
use Rattle.h2_replay.proofs.StepOutput.{writes_unreturned, writes_failure}

-- The second log has written more, and then reported these events.
pub record AddsEvents (log next : Log) : Type 0 where
  pub news : List Turn
  pub octets : List ℕ
  pub events : List Event
  pub turns : next.turns ≡ news ++ log.turns
  pub outs : all_by_octets news
      ≡ each_octet Out octets ++ all_by_octets (map Happened events)
  pub written : next.written ≡ log.written ++ octets
  pub given : next.given ≡ log.given
  pub input : next.input ≡ log.input
  pub reported : next.reported ≡ events ++ log.reported

-- No event.
reports_none : (log next : Log) → AddsOutput log next → AddsEvents log next
unfolding all_by_octets
reports_none log next adds =
    record {
      news = adds.news;
      octets = adds.octets;
      events = [];
      turns = adds.turns;
      outs = adds.outs ∙ sym (append-nil (each_octet Out adds.octets));
      written = adds.written;
      given = adds.given;
      input = adds.input;
      reported = adds.reported;
    }

-- What reporting events leaves.
record Reports (log : Log) (events : List Event) : Type 0 where
  pub turns : (with_reported log events).turns ≡ map Happened events ++ log.turns
  pub written : (with_reported log events).written ≡ log.written
  pub given : (with_reported log events).given ≡ log.given
  pub input : (with_reported log events).input ≡ log.input
  pub reported : (with_reported log events).reported ≡ events ++ log.reported

reports : (log : Log) (events : List Event) → Reports log events
unfolding with_reported
reports log [] =
    record { turns = refl; written = refl; given = refl; input = refl; reported = refl }
reports log (event ∷ events) =
    record { turns = refl; written = refl; given = refl; input = refl; reported = refl }

-- Output, and then events.
reports_after : (log next : Log) (events : List Event) → AddsOutput log next
    → AddsEvents log (with_reported next events)
reports_after log next events adds =
    let made = reports next events in
    record {
      news = map Happened events ++ adds.news;
      octets = adds.octets;
      events = events;
      turns = made.turns ∙ ap (λ (turns : List Turn). map Happened events ++ turns) adds.turns
          ∙ sym (append_assoc (map Happened events) adds.news log.turns);
      outs = both_joined (map Happened events) [] adds.news (each_octet Out adds.octets)
          (all_by_octets (map Happened events)) adds.outs refl;
      written = made.written ∙ adds.written;
      given = made.given ∙ adds.given;
      input = made.input ∙ adds.input;
      reported = made.reported ∙ ap (λ (e : List Event). events ++ e) adds.reported;
    }

-- The same of a log that differs in nothing of that.
events_from : (log other next : Log) → other.turns ≡ log.turns → other.written ≡ log.written
    → other.given ≡ log.given → other.input ≡ log.input → other.reported ≡ log.reported
    → AddsEvents other next → AddsEvents log next
events_from log other next turns written given input reported adds =
    record {
      news = adds.news;
      octets = adds.octets;
      events = adds.events;
      turns = adds.turns ∙ ap (λ (t : List Turn). adds.news ++ t) turns;
      outs = adds.outs;
      written = adds.written ∙ ap (λ (o : List ℕ). o ++ adds.octets) written;
      given = adds.given ∙ given;
      input = adds.input ∙ input;
      reported = adds.reported ∙ ap (λ (e : List Event). adds.events ++ e) reported;
    }

-- An item, by its verdict.
verdict_adds : (log : Log) (decoded : Option Decoded) (item : Item) (verdict : Verdict)
    → AddsEvents log (with_verdict log decoded item verdict)
unfolding with_verdict
verdict_adds log decoded item (ConnectionFault code) =
    reports_none log _ (writes_failure code _ log)
verdict_adds log decoded item verdict =
    events_from log (read log decoded item) _ refl refl refl refl refl
    (reports_after _ _ _ (writes_more (read log decoded item) _ _))

-- What a frame makes of the block that has begun.
step_adds : (log : Log) (decoded : Option Decoded) (step : FrameStep)
    → AddsEvents log (with_step log decoded step)
unfolding with_step
step_adds log decoded (fails_with code) = reports_none log _ (writes_failure code _ log)
step_adds log decoded (begins_block begun) =
    reports_none log _ (writes_none log _ refl refl refl refl refl)
step_adds log decoded (completes item) =
    events_from log (record log { begun = None }) _ refl refl refl refl refl
    (verdict_adds (record log { begun = None }) decoded item _)

-- A frame.
frame_adds : (log : Log) (decoded : Option Decoded) (frame : Frame)
    → AddsEvents log (with_frame log decoded frame)
unfolding with_frame
frame_adds log decoded frame =
    let next : Log = record log { frames = log.frames ++ frame ∷ [] } in
    events_from log next _ refl refl refl refl refl
    (step_adds next decoded (frame_step (log_view log) frame))

-- the event of an answer
abbrev pub events_of_answer : TakeAnswer → List Event
events_of_answer (Took count event) = events_answered event
events_of_answer (Failed code) = []

-- What a call of `take` adds: octets that were used, then output, then the event of its answer.
pub record AddsTake (log next : Log) (answer : TakeAnswer) : Type 0 where
  pub news : List Turn
  pub octets : List ℕ
  pub more : List ℕ
  pub turns : next.turns ≡ news ++ log.turns
  pub all : all_by_octets news ≡ each_octet In octets
      ++ (each_octet Out more ++ all_by_octets (map Happened (events_of_answer answer)))
  pub input : next.input ≡ log.input ++ octets
  pub written : next.written ≡ log.written ++ more
  pub given : next.given ≡ log.given

-- The events are those of the answer.
same_events : (log next : Log) (piece : List ℕ) (answer : TakeAnswer) (events : List Event)
    → next.reported ≡ events ++ log.reported → AfterTake log next piece answer
    → events ≡ events_of_answer answer
same_events log next piece (Took count event) events reported after =
    append_cancel_right events (events_answered event) log.reported (sym reported ∙ after.5)
same_events log next piece (Failed code) events reported after =
    append_cancel_right events [] log.reported (sym reported ∙ after.4)

-- What was used comes before what follows of it.
adds_used : (log next : Log) (piece octets unparsed : List ℕ) (answer : TakeAnswer)
    → AfterTake log next piece answer → AddsEvents (used log octets unparsed) next
    → AddsTake log next answer
unfolding used all_by_octets
adds_used log next piece octets unparsed answer after adds =
    let same = same_events log next piece answer adds.events adds.reported after in
    record {
      news = adds.news ++ In octets ∷ [];
      octets = octets;
      more = adds.octets;
      turns = adds.turns ∙ sym (append_assoc adds.news (In octets ∷ []) log.turns);
      all = both_joined adds.news [] (In octets ∷ []) (each_octet In octets)
          (each_octet Out adds.octets ++ all_by_octets (map Happened adds.events)) refl adds.outs
          ∙ ap (λ (e : List Event). each_octet In octets ++ (each_octet Out adds.octets
          ++ all_by_octets (map Happened e))) same;
      input = adds.input;
      written = adds.written;
      given = adds.given;
    }

-- Nothing was used.
adds_unused : (log next : Log) (piece : List ℕ) (answer : TakeAnswer)
    → AfterTake log next piece answer → AddsEvents log next → AddsTake log next answer
unfolding each_octet
adds_unused log next piece answer after adds =
    let same = same_events log next piece answer adds.events adds.reported after in
    record {
      news = adds.news;
      octets = [];
      more = adds.octets;
      turns = adds.turns;
      all = adds.outs
          ∙ ap (λ (e : List Event). each_octet Out adds.octets
          ++ all_by_octets (map Happened e)) same;
      input = adds.input ∙ sym (append-nil log.input);
      written = adds.written;
      given = adds.given;
    }

-- What is so of one log is so of the same.
same_log : (log next other : Log) → next ≡ other → AddsEvents log other → AddsEvents log next
same_log log next other same adds = subst (λ (n : Log). AddsEvents log n) (sym same) adds

module _ (log next : Log) (piece : List ℕ) (answer : TakeAnswer) where
  -- What a call of `take` adds.
  take_adds_by : AfterTake log next piece answer → MayTake log piece answer next
      → AddsTake log next answer
  take_adds_by after (has_failed code failed answers same) =
      adds_unused log next piece answer after (same_log log next log same
      (reports_none log log (writes_none log log refl refl refl refl refl)))
  take_adds_by after (reports_unprocessed up some answers same) =
      adds_unused log next piece answer after (same_log log next _ same
      (reports_after log (with_unreturned _ log) (UnprocessedEvent (next_unprocessed log) ∷ [])
      (writes_unreturned _ log)))
  take_adds_by after (ends_no_frame takes unparsed part answers same) =
      adds_used log next piece piece unparsed answer after
      (same_log (used log piece unparsed) next (used log piece unparsed) same (reports_none _ _
      (writes_none (used log piece unparsed) (used log piece unparsed) refl refl refl refl refl)))
  take_adds_by after (ends_frame takes octets unused joined frame decoded framed sees same answers)
      = adds_used log next piece octets [] answer after
      (same_log (used log octets []) next _ same (frame_adds (used log octets []) decoded frame))
  take_adds_by after (meets_fault takes octets unused joined fault at answers same) =
      adds_used log next piece octets [] answer after
      (same_log (used log octets []) next _ same (reports_none _ _
      (writes_failure _ _ (used log octets []))))
  take_adds_by after (runs_out_of_memory up octets unused joined may answers same) =
      adds_used log next piece octets [] answer after
      (same_log (used log octets []) next _ same (reports_none _ _
      (writes_failure _ _ (used log octets []))))

  pub take_adds : MayTake log piece answer next → AddsTake log next answer
  take_adds may = take_adds_by (log_after_take log next piece answer may) may
