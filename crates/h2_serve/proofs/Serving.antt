-- What the calls of a connection make of how it is served over a link.
use Rattle.h2_engines.proofs.Names
use Names.{◌≡◌, ◌≢◌, ◌≤◌, ◌+◌, ◌-◌, ◌^◌, ℕ, Bool, true, false, List, [], ◌++◌, length, refl, sym}
use Names.{ap, ◌∙◌, inl, inr, arith, subst, append-nil, append_assoc, Appends, Appends-trans}
use Names.{EndLog, EndRepresents, EndsWriting, Err, LinkError, StallsAtNoProgress, Option, Traffic}
use Names.{Code, ConnRepresents, Log, Some, Values, both_ways, error_with}
use Rattle.h2_frame.specs.declared.code.Code.TheVariants.{InternalError}
use Rattle.h2_conn.specs.Conn.{octets_queued}
use Rattle.h2_engines.specs.Failures.{IsOfServer}
use Rattle.h2_host.specs.declared.party.Own.{Own}
use Rattle.h2_link.specs.declared.error.LinkError.TheVariants as errors
use Rattle.h2_server.specs.declared.connection.Connection.{Connection}
use Rattle.h2_server.specs.Connections.{Calls, KeepsTold, MadeSo, input_kept}
use Rattle.h2_server.specs.Exchanges.{Handling, Relations, handling_of}
use Rattle.h2_server.specs.Phases.{is_phase_down}
use Rattle.h2_server.specs.Steps.{Steps}
use Rattle.h2_server.proofs.StepsMade.{steps_losing, steps_may_lose, steps_then}
use Rattle.h2_serve.specs.Endings.{IsClosedForMemory, IsErrorOf, IsOfDriving}
use Rattle.h2_serve.specs.Serving.{Beginning, HasHandled, HasStoppedServing, HasWrittenLast}
use Rattle.h2_serve.specs.Serving.{HasWritten, IsServing, StopsServingFor}
use Rattle.h2_serve.proofs.CallsMade.{calls_make_none, over_down}
use Rattle.h2_serve.proofs.HandedParts.{steps_turns}

-- Where writing has ended, the link has failed, or has taken nothing.
pub link_so : {H W : Type 0} (now : Traffic) (connection : Connection H W) (untaken : List ℕ)
    (error : LinkError) → EndsWriting error → error ≢ errors.Memory
    → StallsAtNoProgress {A = Unit {0}} (Err error) now.stalled → (end : EndLog)
    → StopsServingFor now end connection untaken error
link_so now connection untaken errors.Device is known stalled end = tt
link_so now connection untaken errors.NoProgress is known stalled end = inl stalled
link_so now connection untaken errors.Memory is known stalled end = absurd (known refl)
link_so now connection untaken other is known stalled end = absurd is

-- The error of one that has failed with a code, and was not closed for want of memory.
pub coded_error : {H W : Type 0} (connection : Connection H W) (code : Code) (error : LinkError)
    → error ≡ error_with code → (IsClosedForMemory connection → ⊥)
    → ((values : Values) (log : Log) → ConnRepresents values connection.server.end.conn log
    → log.failed ≡ Some code)
    → IsErrorOf connection error
coded_error connection InternalError error is other failed =
    rw is (inr (λ values log there. inr (failed values log there)))
coded_error connection code error is other failed =
    rw is (other, λ values log there. (code, failed values log there, refl))

-- What ends a server by itself, and is not N4, ends it while it is driven.
pub of_driving : (error : LinkError) → IsOfServer error → error ≢ errors.CutOff → IsOfDriving error
of_driving errors.CutOff kind goes = absurd (goes refl)
of_driving errors.Device kind goes = absurd kind
of_driving (errors.Reset code) kind goes = absurd kind
of_driving errors.Refused kind goes = absurd kind
of_driving error kind goes = tt

-- The error of one that has ended says why it can't be served on.
pub error_so : {H W : Type 0} (values : Values) (now : Traffic) (connection : Connection H W)
    (error : LinkError) → IsErrorOf connection error → (end : EndLog)
    → EndRepresents values connection.server.end end
    → StopsServingFor now end connection [] error
error_so values now connection (errors.Stream number) (other, is) end there =
    (is values end.log there.streams.conn, (refl, other))
error_so values now connection errors.Memory (inl refused) end there = inl refused
error_so values now connection errors.Memory (inr no_fault) end there =
    inr (no_fault values end.log there.streams.conn)
error_so values now connection other is end there = absurd is

-- Nothing has gone over the link since,
pub appends_none : (start before now : Option (List ℕ)) (octets : List ℕ)
    → Appends start before octets → Appends before now [] → Appends start now octets
appends_none start before now octets had none =
    subst (Appends start now) (append-nil octets)
    (Appends-trans start before now octets [] had none)

-- or it has given these octets, of which some were used after those that were.
pub used_more : (start given now : Traffic) (used rest kept came more last : List ℕ)
    → rest ≡ kept → kept ++ came ≡ more ++ last
    → Appends start.given given.given (used ++ rest) → Appends given.given now.given came
    → Appends start.given now.given ((used ++ more) ++ last)
used_more start given now used rest kept came more last is order had gives =
    subst (Appends start.given now.given)
    (append_assoc used rest came
    ∙ ap (λ (octets : List ℕ). used ++ octets)
    (ap (λ (octets : List ℕ). octets ++ came) is ∙ order)
    ∙ sym (append_assoc used more last))
    (Appends-trans start.given given.given now.given (used ++ rest) came had gives)

-- It is served, and so many turns have passed at least.
pub record ServesOn {H W : Type 0} (rel : Relations H W) (begin : Beginning H) (now : Traffic)
    (connection : Connection H W) (turns : ℕ) : Type 0 where
  pub serving : IsServing rel begin now connection
  pub passed : turns ≤ length serving.after.log.turns

-- Whatever had happened, it is served, after so many rounds, each of a turn at least.
abbrev pub ServesFrom : {H W : Type 0} → Relations H W → (before now : Traffic)
    → (old new : Connection H W) → (rounds : ℕ) → Type 0
ServesFrom {H} rel before now old new rounds =
    (begin : Beginning H) (is : IsServing rel begin before old)
    → ServesOn rel begin now new (rounds + length is.after.log.turns)

module _ {H W : Type 0} {rel : Relations H W} {begin : Beginning H} where
  -- It is served now.
  pub serves_now : {now : Traffic} {connection : Connection H W}
      (is : IsServing rel begin now connection)
      → ServesOn rel begin now connection (0 + length is.after.log.turns)
  serves_now is = record { serving = is; passed = omega arith }

  -- More steps were made.
  pub has_more : {loses : Bool} {used given more_used more_given : List ℕ} {mid after : EndLog}
      {a b : Handling H W} → HasHandled rel begin loses used given mid a
      → Steps rel loses after b more_used more_given mid a
      → HasHandled rel begin loses (used ++ more_used) (given ++ more_given) after b
  has_more has then = record { steps = steps_then has.steps then }

  -- The same though something may be lost,
  pub has_lost : {loses : Bool} {used given : List ℕ} {after : EndLog} {a : Handling H W}
      → HasHandled rel begin loses used given after a → HasHandled rel begin true used given after a
  has_lost has = record { steps = steps_may_lose has.steps }

  -- as it may not where it is up.
  none_lost : (one two : Bool) {used given : List ℕ} {after : EndLog} {a : Handling H W}
      → (one ≡ true → ⊥) → HasHandled rel begin one used given after a
      → HasHandled rel begin two used given after a
  none_lost true two never has = absurd (never refl)
  none_lost false two never has = record { steps = steps_losing two has.steps }

  pub has_losing : {now : Traffic} (connection : Connection H W)
      (is : IsServing rel begin now connection) (loses : Bool)
      → is_phase_down connection.phase ≡ false
      → HasHandled rel begin loses is.used is.given is.after (handling_of connection.exchanges)
  has_losing connection is loses up =
      none_lost is.loses loses
      (λ lost. both_ways (is_phase_down connection.phase) up
      (over_down connection.phase (is.closed lost))) is.has

  -- One that is up keeps all octets that it has not used.
  pub all_kept : {now : Traffic} (connection : Connection H W)
      (is : IsServing rel begin now connection) → is_phase_down connection.phase ≡ false
      → is.rest ≡ input_kept connection
  all_kept connection is up = elim is.kept [
    | inl kept ↦ kept
    | inr down ↦ absurd (both_ways (is_phase_down connection.phase) up down)
  ]

  module _ {before now : Traffic} (old new : Connection H W)
      (is : IsServing rel begin before old) (up : is_phase_down old.phase ≡ false)
      {came gone : List ℕ} (made : MadeSo rel came gone begin.values is.after old new)
      (told : KeepsTold old new) (gives : Appends before.given now.given came)
      (takes : Appends before.taken now.taken gone) where
    -- What was made of one that was up, while the link has given what came, and taken what has
    -- gone: no turn is undone.
    pub serves_made : ServesOn rel begin now new (length is.after.log.turns)
    serves_made = record {
      serving = record {
        after = made.after;
        used = is.used ++ made.used;
        rest = made.rest;
        given = is.given ++ gone;
        loses = made.loses;
        has = has_more (has_losing old is made.loses up) made.steps;
        represents = made.represents;
        kept = made.kept;
        closed = made.closed;
        failing = made.failing is.failing;
        told = told is.told;
        input = used_more begin.start before now is.used is.rest (input_kept old) came made.used
            made.rest (all_kept old is up) made.order is.input gives;
        output = Appends-trans begin.start.taken before.taken now.taken is.given gone is.output
            takes;
      };
      passed = steps_turns made.steps;
    }

  -- So it is after a call that gives none out.
  pub serves_call : {own : Own} {octets : List ℕ} {before now : Traffic} (old new : Connection H W)
      (is : IsServing rel begin before old) → is_phase_down old.phase ≡ false
      → (calls : Calls rel own octets old new) → calls.gone ≡ []
      → Appends before.given now.given octets → Appends before.taken now.taken []
      → ServesOn rel begin now new (length is.after.log.turns)
  serves_call old new is up calls none =
      serves_made old new is up
      (calls_make_none calls none begin.values is.after is.represents) calls.told

  module _ {before now : Traffic} {connection : Connection H W}
      (is : IsServing rel begin before connection) (takes : Appends before.taken now.taken []) where
    -- Nothing was made of it while the link has given nothing either,
    pub serving_still : Appends before.given now.given [] → IsServing rel begin now connection
    serving_still gives = record {
      after = is.after;
      used = is.used;
      rest = is.rest;
      given = is.given;
      loses = is.loses;
      has = is.has;
      represents = is.represents;
      kept = is.kept;
      closed = is.closed;
      failing = is.failing;
      told = is.told;
      input = appends_none begin.start.given before.given now.given (is.used ++ is.rest) is.input
          gives;
      output = appends_none begin.start.taken before.taken now.taken is.given is.output takes;
    }

    -- or has given octets that it has dropped, since it is down.
    pub serves_dropped : (octets : List ℕ) → is_phase_down connection.phase ≡ true
        → Appends before.given now.given octets
        → ServesOn rel begin now connection (length is.after.log.turns)
    serves_dropped octets down gives = record {
      serving = record {
        after = is.after;
        used = is.used;
        rest = is.rest ++ octets;
        given = is.given;
        loses = is.loses;
        has = is.has;
        represents = is.represents;
        kept = inr down;
        closed = is.closed;
        failing = is.failing;
        told = is.told;
        input = subst (Appends begin.start.given now.given) (append_assoc is.used is.rest octets)
            (Appends-trans begin.start.given before.given now.given _ octets is.input gives);
        output = appends_none begin.start.taken before.taken now.taken is.given is.output takes;
      };
      passed = omega arith;
    }

  -- Where all was written it still is.
  pub written_still : {before now : Traffic} {connection : Connection H W}
      → Appends before.given now.given [] → Appends before.taken now.taken []
      → HasWritten rel begin before connection → HasWritten rel begin now connection
  unfolding serving_still
  written_still gives takes is = record {
    serving = serving_still is.serving takes gives;
    up = is.up;
    used = is.used;
    all = is.all;
    returned = is.returned;
  }

  -- It is served no more, for this;
  pub stops_so : {now : Traffic} {connection : Connection H W} (error : LinkError)
      (is : IsServing rel begin now connection)
      → StopsServingFor now is.after connection (octets_queued connection.server.end.conn) error
      → HasStoppedServing rel begin now connection error
  stops_so {connection} error is so = record {
    after = is.after;
    used = is.used;
    unused = is.rest;
    given = is.given;
    taken = is.given;
    untaken = octets_queued connection.server.end.conn;
    has = has_lost is.has;
    represents = is.represents;
    told = is.told;
    input = is.input;
    split = refl;
    output = is.output;
    so = so;
  }

  -- since there were as many rounds as may be;
  pub stops_out : {now : Traffic} {connection : Connection H W} (rounds count : ℕ)
      → ServesOn rel begin now connection (rounds + count) → 2 ^ 64 - 1 ≤ rounds
      → HasStoppedServing rel begin now connection errors.NoProgress
  stops_out rounds count on all =
      stops_so errors.NoProgress on.serving (inr (omega (arith, all, on.passed)))

  -- or, once its last output was taken, for what its error says.
  pub stops_last : {now : Traffic} {connection : Connection H W} (error : LinkError)
      → IsErrorOf connection error → HasWrittenLast rel begin now connection
      → HasStoppedServing rel begin now connection error
  stops_last {now} {connection} error is last =
      let given = last.given ++ octets_queued connection.server.end.conn in record {
        after = last.after;
        used = last.used;
        unused = last.unused;
        given = last.given;
        taken = given;
        untaken = [];
        has = last.has;
        represents = last.represents;
        told = last.told;
        input = last.input;
        split = sym (append-nil given);
        output = last.output;
        so = error_so begin.values now connection error is last.after last.represents;
      }
