-- What writing to a link what waits makes of how a connection is served.
use Rattle.h2_engines.proofs.Names
use Names.{◌≡◌, ℕ, Bool, true, false, List, [], ◌++◌, length, take, drop, refl, sym, ap, ◌∙◌}
use Names.{inl, inr, arith, subst, append-nil, append_assoc, take-append-drop, Appends}
use Names.{Appends-trans, EndLog, LinkError, Traffic, log_view, returns_before_put_out, cases_Bool}
use Names.{Err, EndsWriting, IfErr, Ok, Option, Result, StallsAtNoProgress, failures_at_end}
use Rattle.std.specs.Prelude.{MatchBool}
use Rattle.std.proofs.lemmas.List.{take_all}
use Rattle.h2_conn.specs.Conn.{octets_queued}
use Rattle.h2_link.specs.Links.{WritesAll}
use Rattle.h2_engines.proofs.ResponderFaults.{written_ends, written_failures, written_known}
use Rattle.h2_engines.proofs.ResponderFaults.{written_some}
use Rattle.h2_engines.proofs.ResponderWrites.{most}
use Rattle.h2_laws_machine.proofs.BoundedLogs.{few_wait}
use Rattle.h2_server.specs.declared.connection.Connection.{Connection}
use Rattle.h2_server.specs.Connections.{KeepsTold}
use Rattle.h2_server.specs.Exchanges.{Relations, handling_of}
use Rattle.h2_server.specs.Phases.{is_phase_down}
use Rattle.h2_server.specs.Turns.{WroteSo}
use Rattle.h2_server.proofs.StepsMade.{steps_may_lose}
use Rattle.h2_serve.specs.Serving.{Beginning, HasHandled, HasStoppedServing, HasWrittenLast}
use Rattle.h2_serve.specs.Serving.{IsServing, StopsServingFor, WrittenSo}
use Rattle.h2_serve.proofs.CallsMade.{own_so, up_open}
use Rattle.h2_serve.proofs.Serving.{ServesOn, appends_none, has_lost, has_more, link_so}
use Rattle.h2_serve.proofs.Serving.{serves_made}
use Rattle.h2_serve.proofs.TurnsGiven.{queue_waits}

-- How often the link has failed, where writing to it has ended,
pub wrote_failures : (before after : Option (List ℕ)) (failures now : ℕ)
    (result : Result (Unit {0}) LinkError) (octets : List ℕ)
    → WritesAll before after failures now result octets → now ≡ failures_at_end failures result
unfolding WritesAll
wrote_failures before after failures now (Ok done) octets so = so.1
wrote_failures before after failures now (Err error) octets so =
    written_failures (Unit {0}) before after now error octets refl so

-- and how it may.
pub wrote_ends : (before after : Option (List ℕ)) (failures now : ℕ)
    (result : Result (Unit {0}) LinkError) (octets : List ℕ)
    → WritesAll before after failures now result octets → IfErr result EndsWriting
wrote_ends before after failures now (Ok done) octets so = tt
wrote_ends before after failures now (Err error) octets so =
    written_ends before after failures now error octets so

match_both : (b : Bool) {P Q : Type 0} → (b ≡ true → P) → (b ≡ false → Q) → MatchBool b P Q
match_both true one other = one refl
match_both false one other = other refl

module _ {H W : Type 0} {rel : Relations H W} {begin : Beginning H} {before : Traffic}
    (now : Traffic) (old new : Connection H W) (is : IsServing rel begin before old)
    (wrote : WroteSo rel most begin.values is.after old new) (told : KeepsTold old new)
    (none : Appends before.given now.given []) where
  -- the octets that waited, and those that wait now
  abbrev queued : List ℕ
  queued = octets_queued old.server.end.conn

  abbrev queued_now : List ℕ
  queued_now = octets_queued new.server.end.conn

  -- They are fewer than can be asked for.
  all_asked : take most queued ≡ queued
  all_asked =
      let conn = is.represents.streams.conn in
      let few = few_wait _ begin.values is.after.log conn.machine.came in
      take_all most queued (omega (arith, few, queue_waits old.server.end.conn conn))

  -- Where it was up, and ready, all of them were given out.
  all_gone : is_phase_down old.phase ≡ false
      → returns_before_put_out (log_view is.after.log) ≡ false → wrote.gone ≡ queued
  all_gone up ready =
      wrote.all (up_open old.phase up) ready ∙ all_asked

  -- So it is served on, where the link took all of them,
  serves_wrote : is_phase_down old.phase ≡ false
      → returns_before_put_out (log_view is.after.log) ≡ false
      → Appends before.taken now.taken queued
      → ServesOn rel begin now new (length is.after.log.turns)
  serves_wrote up ready took =
      serves_made old new is up (own_so wrote.made) told none
      (subst (Appends before.taken now.taken) (sym (all_gone up ready)) took)

  -- The steps of that, where something may be lost.
  has_wrote : HasHandled rel begin true is.used (is.given ++ wrote.gone) wrote.made.after
      (handling_of new.exchanges)
  has_wrote =
      subst (λ (used : List ℕ). HasHandled rel begin true used (is.given ++ wrote.gone)
      wrote.made.after (handling_of new.exchanges)) (append-nil is.used)
      (has_more (has_lost is.has) (steps_may_lose wrote.made.steps))

  -- The link gives nothing meanwhile.
  input_wrote : Appends begin.start.given now.given (is.used ++ is.rest)
  input_wrote =
      appends_none begin.start.given before.given now.given (is.used ++ is.rest) is.input none

  -- or, where it was down, its last output was taken;
  taken_last : is_phase_down old.phase ≡ true → Appends before.taken now.taken queued
      → HasWrittenLast rel begin now new
  taken_last down took = record {
    after = wrote.made.after;
    used = is.used;
    unused = is.rest;
    given = is.given ++ wrote.gone;
    has = has_wrote;
    represents = wrote.made.represents;
    told = told is.told;
    input = input_wrote;
    output = subst (Appends begin.start.taken now.taken)
        (ap (λ (octets : List ℕ). is.given ++ octets) (wrote.split down is.failing)
        ∙ sym (append_assoc is.given wrote.gone queued_now))
        (Appends-trans begin.start.taken before.taken now.taken is.given queued is.output took);
  }

  -- or the link took only the first of them, where what was given out and what waits are these and
  -- others.
  stops_with : (some : ℕ) (others : List ℕ) → wrote.gone ++ queued_now ≡ queued ++ others
      → Appends before.taken now.taken (take some queued) → (error : LinkError)
      → ((end : EndLog) (untaken : List ℕ) → StopsServingFor now end new untaken error)
      → HasStoppedServing rel begin now new error
  stops_with some others split took error so =
      let first = take some queued in
      let rest = drop some queued in record {
        after = wrote.made.after;
        used = is.used;
        unused = is.rest;
        given = is.given ++ wrote.gone;
        taken = is.given ++ first;
        untaken = rest ++ others;
        has = has_wrote;
        represents = wrote.made.represents;
        told = told is.told;
        input = input_wrote;
        split = append_assoc is.given wrote.gone queued_now
            ∙ ap (λ (octets : List ℕ). is.given ++ octets)
            (split ∙ ap (λ (octets : List ℕ). octets ++ others) (sym (take-append-drop some queued))
            ∙ append_assoc first rest others)
            ∙ sym (append_assoc is.given first (rest ++ others));
        output = Appends-trans begin.start.taken before.taken now.taken is.given first is.output
            took;
        so = so wrote.made.after (rest ++ others);
      }

  stops_wrote : (is_phase_down old.phase ≡ false
      → returns_before_put_out (log_view is.after.log) ≡ false) → (some : ℕ)
      → Appends before.taken now.taken (take some queued) → (error : LinkError)
      → ((end : EndLog) (untaken : List ℕ) → StopsServingFor now end new untaken error)
      → HasStoppedServing rel begin now new error
  stops_wrote ready some took error so = elim (cases_Bool (is_phase_down old.phase)) [
    | inl down ↦ stops_with some [] (sym (append-nil queued ∙ wrote.split down is.failing)) took
        error so
    | inr up ↦ stops_with some queued_now
        (ap (λ (octets : List ℕ). octets ++ queued_now) (all_gone up (ready up))) took error so
  ]

  -- So it is written, or is not.
  pub written_so : (failures failures_now : ℕ) (result : Result (Unit {0}) LinkError)
      → WritesAll before.taken now.taken failures failures_now result queued
      → StallsAtNoProgress result now.stalled
      → (is_phase_down old.phase ≡ false
      → returns_before_put_out (log_view is.after.log) ≡ false)
      → WrittenSo rel begin now is.after old new result
  unfolding WritesAll
  written_so failures failures_now (Ok done) so stalled ready =
      match_both (is_phase_down old.phase) (λ down. taken_last down so.0)
      (λ up. let on = serves_wrote up (ready up) so.0 in (on.serving, on.passed))
  written_so failures failures_now (Err error) so stalled ready =
      let (some, first) =
      written_some before.taken now.taken failures failures_now error queued so in
      stops_wrote ready some first.took error (λ end untaken.
      link_so now new untaken error
      (written_ends before.taken now.taken failures failures_now error queued so)
      (written_known before.taken now.taken failures failures_now error queued so) stalled end)
