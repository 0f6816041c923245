-- What a turn makes of a connection that is served, and when it has nothing more to do.
use Rattle.h2_engines.proofs.Names
use Names.{◌≡◌, ◌≤◌, ◌<◌, ℕ, Bool, true, false, List, [], ◌++◌, length, drop, refl, sym, ap}
use Names.{◌∙◌, inl, arith, subst, append-nil, both_ways, drop_all, Appends-nil, Count, EndLog, Log}
use Names.{PutOut, Traffic, Values, ConnRepresents, MayAnswer, end_with_log, given_out, nat_lt}
use Names.{waiting, output, with_call, drop-take, drop-append_seam, or_parts, eqb-true, ◌==◌, ◌&&◌}
use Names.{full_output}
use Rattle.std.proofs.Common.{ltb-false}
use Rattle.std.proofs.lemmas.Bool.{not-false}
use Rattle.std.proofs.lemmas.List.{length-drop, nil_from_length}
use Rattle.std.specs.Prelude.{MatchBool, not, ◌||◌}
use Rattle.h2_conn.specs.declared.conn.Conn.{Conn}
use Rattle.h2_conn.specs.Conn.{octets_queued}
use Rattle.h2_host.specs.declared.party.Own.TheVariants as owns
use Rattle.h2_engines.proofs.ResponderOutput.{given_more}
use Rattle.h2_engines.proofs.TurnsPassed.{turns_of_call}
use Rattle.h2_engines.proofs.WithoutLinkOutput.{no_credit_due}
use Rattle.h2_server.specs.declared.connection.Connection.{Connection}
use Rattle.h2_server.specs.Connections.{Calls, WantsTurn, input_kept}
use Rattle.h2_server.specs.Exchanges.{Handling, Relations, handling_of}
use Rattle.h2_server.specs.Phases.{is_phase_down, is_phase_failing}
use Rattle.h2_server.specs.Steps.{Steps, given_between, puts_out}
use Rattle.h2_server.specs.Turns.{TurnedSo, Turns}
use Rattle.h2_server.proofs.StepsMade.{one_step, steps_then, same as same_handling}
use Rattle.h2_serve.specs.Serving.{Beginning, HasHandled, HasTurned, HasWritten, IsServing}
use Rattle.h2_serve.proofs.CallsMade.{up_goes_on}
use Rattle.h2_serve.proofs.HandedParts.{steps_turns}
use Rattle.h2_serve.proofs.OutputWithin.{steps_within}
use Rattle.h2_serve.proofs.Serving.{all_kept, has_losing, has_more, serves_call, used_more}

-- the end once its output was made ready
abbrev made_ready : EndLog → EndLog
made_ready before = end_with_log before (with_call before.log (PutOut 0) (Count 0))

-- By which none is given out.
none_out : (before : EndLog) → before.log.given ≤ length before.log.written
    → given_between before (made_ready before) ≡ []
none_out before within =
    let log = before.log in
    ap (λ (octets : List ℕ). drop (length (given_out log)) octets) (given_more log 0 0 within)
    ∙ drop-append_seam (given_out log) _
    ∙ drop-take log.given 0 (with_call log (PutOut 0) (Count 0)).written

module _ {H W : Type 0} {rel : Relations H W} where
  -- So that is a step after the others.
  ready_steps : {used : List ℕ} {end before : EndLog} {old new : Handling H W}
      → Steps rel false before new used [] end old
      → end.log.given ≤ length end.log.written → MayAnswer before.log (PutOut 0) (Count 0)
      → Steps rel false (made_ready before) new used [] end old
  ready_steps {used} {end} {before} {old} {new} made within may =
      let after = made_ready before in
      let last : Steps rel false after new [] [] before new =
      subst (λ (given : List ℕ). Steps rel false after new [] given before new)
      (none_out before (steps_within made within))
      (one_step (puts_out 0 (Count 0) may refl (same_handling new))) in
      subst (λ (octets : List ℕ). Steps rel false after new octets [] end old) (append-nil used)
      (steps_then made last)

  module _ {begin : Beginning H} {now : Traffic} (old new : Connection H W)
      (is : IsServing rel begin now old) (was : is_phase_down old.phase ≡ false)
      (up : is_phase_down new.phase ≡ false) (turned : TurnedSo rel begin.values is.after old new)
    where
      -- It is served on, if it is up;
      serving_turned : IsServing rel begin now new
      serving_turned =
          let before = turned.before in
          let made = ready_steps turned.steps is.represents.streams.conn.machine.output.given
          turned.may in
          record {
            after = made_ready before;
            used = is.used ++ turned.used;
            rest = input_kept new;
            given = is.given;
            loses = false;
            has = subst (λ (given : List ℕ). HasHandled rel begin false (is.used ++ turned.used)
                given (made_ready before) (handling_of new.exchanges)) (append-nil is.given)
                (has_more (has_losing old is false was) made);
            represents = turned.represents;
            kept = inl refl;
            closed = λ no. absurd (cc);
            failing = λ fails. absurd (both_ways (is_phase_failing new.phase)
                (up_goes_on new.phase up) fails);
            told = λ down. absurd (both_ways (is_phase_down new.phase) up down);
            input = used_more begin.start now now is.used is.rest (input_kept old) [] turned.used
                (input_kept new) (all_kept old is was)
                (append-nil (input_kept old) ∙ turned.order) is.input (Appends-nil now.given);
            output = is.output;
          }

      -- a turn has passed, and what waits can be written.
      has_turned : HasTurned rel begin now is.after new
      unfolding serving_turned
      has_turned = record {
        serving = serving_turned;
        ready = turned.ready;
        later = omega (
          arith,
          steps_turns turned.steps,
          turns_of_call turned.before.log (PutOut 0) (Count 0),
        );
      }

  -- It was given its turn, and is up after it or not.
  pub serves_turn : {begin : Beginning H} {now : Traffic} (old new : Connection H W)
      (is : IsServing rel begin now old) → is_phase_down old.phase ≡ false
      → Calls rel owns.Turn [] old new → Turns rel old new → (down : Bool)
      → down ≡ is_phase_down new.phase
      → MatchBool (not down) (HasTurned rel begin now is.after new) (IsServing rel begin now new)
  serves_turn {now} old new is was calls turns true so =
      (serves_call old new is was calls calls.gives (Appends-nil now.given)
      (Appends-nil now.taken)).serving
  serves_turn {begin} old new is was calls turns false so =
      has_turned old new is was (sym so) (turns (sym so) begin.values is.after is.represents)

-- So many octets wait as are queued.
pub queue_waits : (conn : Conn) {values : Values} {log : Log} → ConnRepresents values conn log
    → length (octets_queued conn) ≡ waiting log
unfolding waiting output
queue_waits conn {log} is =
    ap (λ (octets : List ℕ). length octets) is.machine.output.waiting
    ∙ length-drop log.given log.written

-- So none are queued where none wait.
pub none_queued : (conn : Conn) {values : Values} {log : Log} → ConnRepresents values conn log
    → waiting log ≡ 0 → octets_queued conn ≡ []
none_queued conn is none = nil_from_length (octets_queued conn) (queue_waits conn is ∙ none)

-- No octets are kept where no turn is wanted though nothing waits.
none_kept : (kept waits : ℕ) (down sends : Bool) → down ≡ false → waits ≡ 0
    → (not down && (nat_lt waits full_output && (not (kept == 0) || sends))) ≡ false → kept ≡ 0
none_kept kept waits true sends up none no_turn = absurd (cc)
none_kept kept waits false sends up none no_turn =
    let both = or_parts (not (kept == 0)) sends (rw none at no_turn) in
    eqb-true kept 0 (not-false (kept == 0) both.0)

module _ {H W : Type 0} {rel : Relations H W} {begin : Beginning H} {now : Traffic}
    {connection : Connection H W} {before : EndLog}
    (up : is_phase_down connection.phase ≡ false)
    (turned : HasTurned rel begin now before connection) where
  -- Where nothing waits, and it wants no turn, all was written and used, and no credit waits.
  pub has_written : (writes wants : Bool)
      → writes ≡ nat_lt 0 (length (octets_queued connection.server.end.conn)) → writes ≡ false
      → WantsTurn connection wants → wants ≡ false
      → (written : HasWritten rel begin now connection)
      × (length before.log.turns < length written.serving.after.log.turns)
  has_written writes wants queued no_output (sends, so, wanted) no_turn =
      let is = turned.serving in
      let conn = is.represents.streams.conn in
      let queue = octets_queued connection.server.end.conn in
      let few = ltb-false 0 (length queue) (sym queued ∙ no_output) in
      let none : waiting is.after.log ≡ 0 =
      omega (arith, few, queue_waits connection.server.end.conn conn) in
      let kept = none_kept (length connection.kept.items) (waiting is.after.log)
      (is_phase_down connection.phase) sends up none
      (sym (wanted begin.values is.after.log conn) ∙ no_turn) in (
        record {
          serving = is;
          up = up;
          used = all_kept connection is up
              ∙ drop_all connection.used connection.kept.items (omega (arith, kept));
          all = none;
          returned = λ there. no_credit_due is.after.log there none turned.ready;
        },
        turned.later,
      )
