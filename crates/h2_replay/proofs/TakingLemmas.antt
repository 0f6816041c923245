-- A call of `take`, and what is kept of it.
use Rattle.h2_replay.proofs.Names.{◌≡◌, ℕ, ◌-◌, ◌≤◌, Bool, false, List, [], ◌∷◌, ◌++◌, length, take}
use Rattle.h2_replay.proofs.Names.{drop, map, Option, Some, None, refl, sym, ap, subst, ◌∙◌, arith}
use Rattle.h2_replay.proofs.Names.{append_assoc, append-nil, length-drop, take-length, Code, In}
use Rattle.h2_replay.proofs.Names.{Out, Happened, Event, Log, TakeAnswer, Took, Failed, MayTake}
use Rattle.h2_replay.proofs.Names.{log_after_take, KeptEvent, kept_event_value, turn_value}
use Rattle.h2_replay.proofs.Names.{each_octet, by_octets, taken_answer, taken_events, KeepsNews}
use Rattle.h2_replay.proofs.Names.{GoesOn, IsWithinPiece, waiting, output, all_by_octets}
use Rattle.h2_replay.proofs.Names.{kept_by_octets}
use Rattle.std.proofs.Common.{◌≢◌, ◌^◌, nat_lt, true, if◌then◌else◌, inl, inr, ltb-true, ltb-false}
use Rattle.std.proofs.Math.Seq.{drop-append_seam}
use Rattle.std.proofs.lemmas.List.{append_cancel_left, length-append, take-append-le}
use Rattle.std.proofs.lemmas.List.{drop-append-le}
use Rattle.h2_wire.specs.Cutter.{saturated}
use Rattle.h2_replay.specs.declared.taking.Taking.{Taking}
use Rattle.h2_replay.specs.declared.turns.Turn.{Turn}
use Rattle.h2_replay.specs.Taking.{answered_by, next_by, next_of}
use Rattle.h2_replay.proofs.StepTakes.{AddsTake, events_of_answer}
use Rattle.h2_spec_log.specs.Acts as logs
use Rattle.h2_replay.specs.declared.taking.Next.TheVariants as nexts

-- One more turn is kept.
pub kept_more : (turns : List Turn) (turn : Turn)
    → kept_by_octets (turns ++ turn ∷ []) ≡ kept_by_octets turns ++ by_octets (turn_value turn)
unfolding kept_by_octets
kept_more [] turn = append-nil (by_octets (turn_value turn))
kept_more (first ∷ turns) turn =
    ap (λ (all : List logs.Turn). by_octets (turn_value first) ++ all) (kept_more turns turn)
    ∙ sym (append_assoc (by_octets (turn_value first)) (kept_by_octets turns)
    (by_octets (turn_value turn)))

-- The same turns are kept after others.
pub kept_joined : (turns more : List Turn)
    → kept_by_octets (turns ++ more) ≡ kept_by_octets turns ++ kept_by_octets more
unfolding kept_by_octets
kept_joined [] more = refl
kept_joined (first ∷ turns) more =
    ap (λ (all : List logs.Turn). by_octets (turn_value first) ++ all) (kept_joined turns more)
    ∙ sym (append_assoc (by_octets (turn_value first)) (kept_by_octets turns)
    (kept_by_octets more))

-- The octets that were used, by the places before and after it.
pub used_exactly : (before after : ℕ) (input octets unused piece : List ℕ)
    → before ≡ saturated (length input) → after ≡ saturated (length (input ++ octets))
    → after ≢ 2 ^ 64 - 1 → piece ≡ octets ++ unused → octets ≡ take (after - before) piece
used_exactly before after input octets unused piece was is below joined =
    let sum = length-append input octets in
    let size : after - before ≡ length octets = omega (arith, was, is, below, sum) in
    rw (joined, size) (sym (take-length octets)
    ∙ sym (take-append-le (length octets) octets unused (omega arith)))

module _ (log after : Log) (piece : List ℕ) where
  -- How a replay goes on is as the answer says.
  goes_by : (used : ℕ) (event : Option KeptEvent) (fault : Option Code)
      → MayTake log piece (answered_by fault used event) after → used ≤ length piece
      → GoesOn log piece (next_by fault event used (length piece)) after
  goes_by used event (Some code) may within = may
  goes_by used (Some event) None may within =
      (Some (kept_event_value event), may, within, inr (λ none. cc))
  goes_by used None None may within = by_test (nat_lt used (length piece)) refl where
    by_test : (test : Bool) → nat_lt used (length piece) ≡ test
        → GoesOn log piece (if test then nexts.Again used else nexts.Done) after
    by_test true is = (None, may, within, inl (ltb-true used (length piece) is))
    by_test false is =
        let more = ltb-false used (length piece) is in
        let all : used ≡ length piece = omega (arith, more, within) in
        subst (λ (n : ℕ). MayTake log piece (Took n None) after) all may

  pub goes_on_of : (taking : Taking) → MayTake log piece (taken_answer taking) after
      → taking.used ≤ length piece → GoesOn log piece (next_of taking (length piece)) after
  goes_on_of taking may within = goes_by taking.used taking.event taking.fault may within

-- It goes on within the piece.
within_by : (used size : ℕ) (event : Option KeptEvent) (fault : Option Code) → used ≤ size
    → IsWithinPiece (next_by fault event used size) size
within_by used size event (Some code) within = tt
within_by used size (Some event) None within = within
within_by used size None None within = by_test (nat_lt used size)
  where
    by_test : (test : Bool) → IsWithinPiece (if test then nexts.Again used else nexts.Done) size
    by_test true = within
    by_test false = tt

pub is_within : (taking : Taking) (size : ℕ) → taking.used ≤ size
    → IsWithinPiece (next_of taking size) size
is_within taking size within = within_by taking.used size taking.event taking.fault within

-- The events of an answer.
events_by : (used : ℕ) (event : Option KeptEvent) (fault : Option Code)
    → taken_events (record { used = used; event = event; fault = fault })
    ≡ events_of_answer (answered_by fault used event)
events_by used event None = refl
events_by used event (Some code) = refl

pub same_events : (taking : Taking) → taken_events taking ≡ events_of_answer (taken_answer taking)
same_events taking = events_by taking.used taking.event taking.fault

-- What has joined an output, by the number of octets that were queued before it.
pub joined_since : (waited given : ℕ) (written more : List ℕ) → given ≤ length written
    → waited ≡ length written - given → drop waited (drop given (written ++ more)) ≡ more
joined_since waited given written more within is =
    let left : List ℕ = drop given written in
    let size : waited ≡ length left = omega (arith, is, length-drop given written) in
    ap (drop waited) (drop-append-le given written more within)
    ∙ ap (λ (n : ℕ). drop n (left ++ more)) size ∙ drop-append_seam left more

-- A prefix, by its length.
prefix_of : (octets unused piece : List ℕ) (count : ℕ) → piece ≡ octets ++ unused
    → length octets ≡ count → octets ≡ take count piece
prefix_of octets unused piece count joined many =
    rw (joined, ← many) (sym (take-length octets)
    ∙ sym (take-append-le (length octets) octets unused (omega arith)))

-- The octets that a call used, where it returns how many.
pub took_input : (log after : Log) (piece : List ℕ) (count : ℕ) (event : Option Event)
    → MayTake log piece (Took count event) after
    → after.input ≡ log.input ++ take count piece
took_input log after piece count event may =
    let (octets, unused, joined, many, input, reported, up) =
    log_after_take log after piece (Took count event) may in
    input ∙ ap (λ (o : List ℕ). log.input ++ o) (prefix_of octets unused piece count joined many)

-- The octets that a call used with which the connection has failed.
pub failed_input : (log after : Log) (piece : List ℕ) (code : Code) (before place : ℕ)
    → MayTake log piece (Failed code) after → before ≡ saturated (length log.input)
    → place ≡ saturated (length after.input) → place ≢ 2 ^ 64 - 1
    → after.input ≡ log.input ++ take (place - before) piece
failed_input log after piece code before place may was is below =
    let (octets, unused, joined, input, reported, failed) =
    log_after_take log after piece (Failed code) may in
    input ∙ ap (λ (o : List ℕ). log.input ++ o)
    (used_exactly before place log.input octets unused piece was
    (is ∙ ap (λ (o : List ℕ). saturated (length o)) input) below joined)

-- Two turns are kept.
pub kept_twice : (old one two : List Turn) (first second : Turn) (ins outs : List logs.Turn)
    → one ≡ old ++ first ∷ [] → two ≡ one ++ second ∷ []
    → by_octets (turn_value first) ≡ ins → by_octets (turn_value second) ≡ outs
    → kept_by_octets two ≡ kept_by_octets old ++ (ins ++ outs)
kept_twice old one two first second ins outs one_is two_is ins_are outs_are =
    ap kept_by_octets two_is ∙ kept_more one second
    ∙ ap (λ (all : List logs.Turn). all ++ by_octets (turn_value second))
    (ap kept_by_octets one_is ∙ kept_more old first
    ∙ ap (λ (all : List logs.Turn). kept_by_octets old ++ all) ins_are)
    ∙ ap (λ (all : List logs.Turn). (kept_by_octets old ++ ins) ++ all) outs_are
    ∙ append_assoc (kept_by_octets old) ins outs

-- And no event.
pub kept_without : (old two : List Turn) (ins outs : List logs.Turn) (events : List Event)
    → kept_by_octets two ≡ kept_by_octets old ++ (ins ++ outs) → events ≡ []
    → kept_by_octets two ≡ kept_by_octets old ++ (ins ++ (outs ++ all_by_octets
    (map Happened events)))
unfolding all_by_octets
kept_without old two ins outs events kept none =
    rw none (kept ∙ ap (λ (all : List logs.Turn). kept_by_octets old ++ (ins ++ all))
    (sym (append-nil outs)))

-- And an event.
pub kept_with : (old two three : List Turn) (turn : Turn) (ins outs : List logs.Turn)
    (events : List Event) → kept_by_octets two ≡ kept_by_octets old ++ (ins ++ outs)
    → three ≡ two ++ turn ∷ []
    → by_octets (turn_value turn) ≡ all_by_octets (map Happened events)
    → kept_by_octets three ≡ kept_by_octets old ++ (ins ++ (outs ++ all_by_octets
    (map Happened events)))
kept_with old two three turn ins outs events kept three_is event =
    let more = all_by_octets (map Happened events) in
    ap kept_by_octets three_is ∙ kept_more two turn
    ∙ ap (λ (all : List logs.Turn). all ++ by_octets (turn_value turn)) kept
    ∙ ap (λ (all : List logs.Turn). (kept_by_octets old ++ (ins ++ outs)) ++ all) event
    ∙ append_assoc (kept_by_octets old) (ins ++ outs) more
    ∙ ap (λ (all : List logs.Turn). kept_by_octets old ++ all) (append_assoc ins outs more)

-- One event, octet by octet.
pub one_event : (event : Event)
    → Happened event ∷ [] ≡ all_by_octets (map Happened (event ∷ []))
unfolding all_by_octets
one_event event = refl

module _ (log after : Log) (answer : TakeAnswer) (octets : List ℕ) where
  -- What was kept of a call is what it has added to the log.
  pub take_keeps : (more : List ℕ) (events : List Event) (old new : List Turn)
      (adds : AddsTake log after answer) → adds.octets ≡ octets → more ≡ adds.more
      → events ≡ events_of_answer answer
      → kept_by_octets new ≡ kept_by_octets old ++ (each_octet In octets
      ++ (each_octet Out more ++ all_by_octets (map Happened events)))
      → KeepsNews log after old new
  take_keeps more events old new adds used wrote said kept =
      record {
        news = adds.news;
        turns = adds.turns;
        same = kept ∙ ap (λ (all : List logs.Turn). kept_by_octets old ++ all)
            (ap (λ (o : List ℕ). each_octet In o
            ++ (each_octet Out more ++ all_by_octets (map Happened events))) (sym used)
            ∙ ap (λ (o : List ℕ). each_octet In adds.octets
            ++ (each_octet Out o ++ all_by_octets (map Happened events))) wrote
            ∙ ap (λ (e : List Event). each_octet In adds.octets
            ++ (each_octet Out adds.more ++ all_by_octets (map Happened e))) said ∙ sym adds.all);
      }

  -- The octets used and those that have joined the output are those of the log.
  pub used_are : (adds : AddsTake log after answer) → after.input ≡ log.input ++ octets
      → adds.octets ≡ octets
  used_are adds input = append_cancel_left log.input adds.octets octets (sym adds.input ∙ input)

pub joined_are : (log after : Log) (answer : TakeAnswer) (waited : ℕ) (joined : List ℕ)
    (adds : AddsTake log after answer) → log.given ≤ length log.written → waited ≡ waiting log
    → joined ≡ drop waited ([] ++ drop after.given after.written) → joined ≡ adds.more
unfolding waiting output
joined_are log after answer waited joined adds within is made =
    made ∙ ap (λ (n : ℕ). drop waited (drop n after.written)) adds.given
    ∙ ap (λ (o : List ℕ). drop waited (drop log.given o)) adds.written
    ∙ joined_since waited log.given log.written adds.more within is
