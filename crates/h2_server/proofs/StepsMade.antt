-- Steps of a server with its handler, one after another.
use Rattle.std.proofs.Common.{◌≡◌, ◌∙◌, List, Ok, Err, None, refl, sym, subst, inl, inr}
use Rattle.std.proofs.Common.{[], ◌+◌, ◌++◌, ap, append-nil, append_assoc, take, take-add, drop}
use Rattle.std.proofs.lemmas.List.{take-append-drop}
use Rattle.std.specs.Prelude.{ℕ, Bool, true, false, Result, Some, length}
use Rattle.h2_conn.specs.declared.taken.ConnFault.{ConnFault}
use Rattle.h2_ends.specs.declared.event.EndTaken.{EndTaken}
use Rattle.h2_ends.specs.EndTakes.{EndMayTake}
use Rattle.h2_ends.specs.Ends.{EndTook, Handed}
use Rattle.h2_ends.specs.Loans.{answer_of_taken}
use Rattle.h2_ends.specs.Represents.{EndTakes}
use Rattle.h2_spec_log.specs.Acts.{Values, Act, Answer, PutOut}
use Rattle.h2_spec_log.specs.LogCalls.{with_call}
use Rattle.h2_ends.specs.declared.end.End.{End}
use Rattle.h2_ends.specs.declared.refusal.EndRefusal.{EndRefusal}
use Rattle.h2_ends.specs.Ends.{EndLog}
use Rattle.h2_ends.specs.EndTakes.{end_with_log}
use Rattle.h2_ends.specs.Represents.{EndAnswers, EndPumpsSome, EndReleases}
use Rattle.h2_ends.specs.Represents.{EndRepresents}
use Rattle.h2_server.specs.Exchanges.{Relations, Handling, IsSameHandling, Kept, exchange_at}
use Rattle.h2_server.specs.Exchanges.{awake, is_part_due_at}
use Rattle.h2_server.specs.Sending.{IsAskedFor}
use Rattle.h2_server.specs.Stages.{is_part_due}
use Rattle.h2_server.specs.Exchanges.{SetsKept}
use Rattle.h2_server.specs.Giving.{GivesStage}
use Rattle.h2_server.proofs.KeptMaps.{set_twice}
use Rattle.h2_server.specs.Steps.{Steps, HandledStep, Handles, HandlesAny, HandlesPiece}
use Rattle.h2_server.specs.Steps.{IsNextStage, IsOverFor, IsOwnCall, none, more, notes, calls}
use Rattle.h2_server.specs.Steps.{loses_by, puts_out, MayStopReading}
use Rattle.h2_server.specs.Steps.{EndSendsPart, HandsNothing, given_between}
use Rattle.h2_server.specs.Steps.{releases, pumps}
use Rattle.h2_server.proofs.TakesFirst.{uses_first}
use Rattle.h2_server.specs.Telling.{EndsAny, EndsEach, no_more, goes_on, ends_one}
use Rattle.h2_server.specs.Telling.{AskedPart, ChangesAny, Tells}
use Rattle.h2_server.specs.Steps as steps
use Rattle.h2_frame.specs.declared.code.Code.TheVariants.{NoError}
use Rattle.h2_server.specs.declared.exchange.Stage.{Stage}
use Rattle.h2_server.specs.declared.exchange.Stage.TheVariants.{Parts, Resets}
use Rattle.h2_server.specs.declared.handler.HandlerFault.{HandlerFault}
use Rattle.h2_server.specs.declared.handler.HandlerFault.TheVariants.{Failed}
use Rattle.h2_server.specs.declared.handler.Part.{Part}
use Rattle.h2_server.specs.declared.stop.Stop.{Stop}
use Rattle.h2_server.specs.declared.stop.Stop.TheVariants.{Memory}
use Rattle.h2_server.specs.declared.handler.Cause.{Cause}
use Rattle.h2_server.specs.declared.handler.Cause.TheVariants.{Closed}

-- Octets were taken, and this was handed out.
abbrev pub EndHands : (old : End) → (piece : List ℕ) → (count : ℕ) → Handed → (new : End)
    → Type 0
EndHands old piece count handed new =
    (values : Values) (end : EndLog) → EndRepresents values old end
    → (after : EndLog) × EndMayTake end piece (EndTook count (Some handed)) after
    × EndRepresents values new after

-- What is as it was, is the same.
pub same : {H W : Type 0} (h : Handling H W) → IsSameHandling h h
same h = record { handler = refl; kept = λ i. refl }

-- Where a part is due, it is given in parts, and its handler may be asked.
pub part_due : (stage : Stage) → is_part_due stage ≡ true → stage ≡ Parts false
part_due (Parts false) due = refl
part_due (Parts true) due = absurd (cc)
part_due stage due = absurd (cc)

-- A handler was not asked, since there is no such exchange.
pub unasked_same : {H W : Type 0} (rel : Relations H W) {a : Handling H W} (mid : Handling H W)
    (id : ℕ) (room : List ℕ) (part : Result Part HandlerFault)
    → ChangesAny (AskedPart rel room part) id a mid → exchange_at id mid.entries ≡ None
    → (exchange_at id a.entries ≡ None) × IsSameHandling a mid
unasked_same rel mid id room part (inl one_part) at =
    absurd (let no = sym at ∙ one_part.now.at in cc)
unasked_same rel mid id room part (inr never) at = never

module _ {H W : Type 0} {rel : Relations H W} where
  -- More steps after some.
  pub steps_then : {loses : Bool} {last mid : EndLog} {new between : Handling H W}
      {first : EndLog} {old : Handling H W} {used given more_used more_given : List ℕ}
      → Steps rel loses mid between used given first old
      → Steps rel loses last new more_used more_given mid between
      → Steps rel loses last new (used ++ more_used) (given ++ more_given) first old
  steps_then none then = then
  steps_then {loses} {last} {new} {first} {old} {more_used} {more_given}
      (more {used} {given} {more_used = next_used} {more_given = next_given} step rest) then =
      subst (λ (octets : List ℕ). Steps rel loses last new octets
      ((given ++ next_given) ++ more_given) first old)
      (sym (append_assoc used next_used more_used))
      (subst (λ (octets : List ℕ). Steps rel loses last new (used ++ (next_used ++ more_used))
      octets first old) (sym (append_assoc given next_given more_given))
      (more step (steps_then rest then)))

  -- One step.
  pub one_step : {loses : Bool} {used given : List ℕ} {end after : EndLog}
      {old new : Handling H W} → HandledStep rel loses used given end old after new
      → Steps rel loses after new used given end old
  one_step {loses} {used} {given} {end} {after} {old} {new} step =
      subst (λ (octets : List ℕ). Steps rel loses after new octets given end old)
      (append-nil used)
      (subst (λ (octets : List ℕ). Steps rel loses after new (used ++ []) octets end old)
      (append-nil given) (more step none))

  -- Any step is one in which something may be lost,
  pub step_may_lose : {loses : Bool} {used given : List ℕ} {end after : EndLog}
      {old new : Handling H W} → HandledStep rel loses used given end old after new
      → HandledStep rel true used given end old after new
  step_may_lose (notes is so) = notes is so
  step_may_lose (steps.takes piece used answer may uses nothing so) =
      steps.takes piece used answer may uses nothing so
  step_may_lose (steps.tells piece used count handed may uses told) =
      steps.tells piece used count handed may uses told
  step_may_lose (steps.lacks_memory piece used count handed may uses so) =
      steps.lacks_memory piece used count handed may uses so
  step_may_lose (steps.gives id one) = steps.gives id one
  step_may_lose (steps.asks id one) = steps.asks id one
  step_may_lose (steps.ends id cause over is now) = steps.ends id cause over is now
  step_may_lose (steps.stops_reading id kept was may now handler is) =
      steps.stops_reading id kept was may now handler is
  step_may_lose (steps.wakes id kept was now handler is) =
      steps.wakes id kept was now handler is
  step_may_lose (releases answer may so) = releases answer may so
  step_may_lose (pumps most answer may so) = pumps most answer may so
  step_may_lose (calls act answer own may is so) = calls act answer own may is so
  step_may_lose (puts_out count answer may is so) = puts_out count answer may is so

  -- and so are steps, one after another.
  pub steps_may_lose : {loses : Bool} {last : EndLog} {new : Handling H W} {first : EndLog}
      {old : Handling H W} {used given : List ℕ} → Steps rel loses last new used given first old
      → Steps rel true last new used given first old
  steps_may_lose none = none
  steps_may_lose (more step rest) = more (step_may_lose step) (steps_may_lose rest)

  -- Steps in which nothing is lost are such steps, whether something may be lost or not.
  pub steps_losing : (loses : Bool) {last : EndLog} {new : Handling H W} {first : EndLog}
      {old : Handling H W} {used given : List ℕ} → Steps rel false last new used given first old
      → Steps rel loses last new used given first old
  steps_losing true made = steps_may_lose made
  steps_losing false made = made

  -- One after another: the octets that were used are those of the first, and then the others.
  pub then_handles : {used more_used : List ℕ} {one two three : End} {a b c : Handling H W}
      → Handles rel used one a two b → Handles rel more_used two b three c
      → Handles rel (used ++ more_used) one a three c
  then_handles first second values end is =
      let (mid, made, there) = first values end is in
      let (after, more_made, then) = second values mid there in
      (after, steps_then made more_made, then)

  -- So many octets of a piece, and then so many of the others;
  pub then_counted : (piece : List ℕ) (count more_count : ℕ) {one two three : End}
      {a b c : Handling H W} → Handles rel (take count piece) one a two b
      → Handles rel (take more_count (drop count piece)) two b three c
      → Handles rel (take (count + more_count) piece) one a three c
  then_counted piece count more_count first second =
      rw (take-add count more_count piece) (then_handles first second)

  -- or then none.
  pub then_nothing : {used : List ℕ} {one two three : End} {a b c : Handling H W}
      → Handles rel used one a two b → Handles rel [] two b three c → Handles rel used one a three c
  then_nothing {used} {one} {three} {a} {c} first second =
      subst (λ (octets : List ℕ). Handles rel octets one a three c) (append-nil used)
      (then_handles first second)

  -- The same, whatever octets were used and given out,
  pub then_any : {one two three : End} {a b c : Handling H W}
      → HandlesAny rel one a two b → HandlesAny rel two b three c → HandlesAny rel one a three c
  then_any first second values end is =
      let (used, given, mid, made, there) = first values end is in
      let (more_used, more_given, after, more_made, then) = second values mid there in
      (used ++ more_used, given ++ more_given, after, steps_then made more_made, then)

  -- as they are where they are said,
  pub any_handles : {used : List ℕ} {one two : End} {a b : Handling H W}
      → Handles rel used one a two b → HandlesAny rel one a two b
  any_handles {used} handles values end is =
      let (after, made, there) = handles values end is in
      (used, [], after, steps_may_lose made, there)

  -- or are those of a piece.
  pub piece_handles : (piece : List ℕ) {one two : End} {a b : Handling H W}
      (result : Result ℕ Stop) → HandlesPiece rel piece one a two b result
      → HandlesAny rel one a two b
  piece_handles piece (Ok count) handles = any_handles handles
  piece_handles piece (Err stop) handles = λ values end is.
      let (used, rest, first, (after, made, there)) = handles values end is in
      (used, [], after, steps_may_lose made, there)

  -- The connection can't go on once first ones of a piece were used,
  pub stops_first : {piece : List ℕ} (used rest : List ℕ) → piece ≡ used ++ rest
      → {one two : End} {a b : Handling H W} (stop : Stop) → Handles rel used one a two b
      → HandlesPiece rel piece one a two b (Err stop)
  stops_first used rest first stop handles values end is =
      let (after, made, there) = handles values end is in
      (used, rest, first, (after, steps_losing (loses_by stop) made, there))

  -- or so many of them;
  pub stops_counted : {piece : List ℕ} (count : ℕ) {one two : End} {a b : Handling H W}
      (stop : Stop) → Handles rel (take count piece) one a two b
      → HandlesPiece rel piece one a two b (Err stop)
  stops_counted {piece} count stop handles =
      stops_first (take count piece) (drop count piece) (sym (take-append-drop count piece)) stop
      handles

  -- or once so many were used, and then first ones of the others.
  pub stops_after : {piece : List ℕ} (count : ℕ) {one two three : End} {a b c : Handling H W}
      (stop : Stop) → Handles rel (take count piece) one a two b
      → HandlesPiece rel (drop count piece) two b three c (Err stop)
      → HandlesPiece rel piece one a three c (Err stop)
  stops_after {piece} count stop first second values end is =
      let (mid, made, there) = first values end is in
      let (used, rest, split, (after, more_made, then)) = second values mid there in (
        take count piece ++ used,
        rest,
        sym (take-append-drop count piece)
            ∙ ap (λ (octets : List ℕ). take count piece ++ octets) split
            ∙ sym (append_assoc (take count piece) used rest),
        (after, steps_then (steps_losing (loses_by stop) made) more_made, then),
      )

  -- Nothing happens.
  pub nothing_handles : (one : End) (a : Handling H W) → Handles rel [] one a one a
  nothing_handles one a values end is = (end, none, is)

  -- Something was counted.
  pub noted_handles : (one : End) {a b : Handling H W} → IsSameHandling a b
      → Handles rel [] one a one b
  noted_handles one so values end is = (end, more (notes refl so) none, is)

  pub nothing_any : (one : End) (a : Handling H W) → HandlesAny rel one a one a
  nothing_any one a = any_handles (nothing_handles one a)

  -- A call that is the connection's own was made.
  pub called_handles : {one two : End} {act : Act} {answer : Answer} (a : Handling H W)
      → IsOwnCall act → EndAnswers one act answer two → Handles rel [] one a two a
  called_handles {act} {answer} a own answers values end is =
      let made = answers values end is in (
        end_with_log end (with_call end.log act answer),
        more (calls act answer own made.0 refl (same a)) none,
        made.1,
      )

  -- Output was put out.
  pub put_out_handles : {one two : End} {count : ℕ} {answer : Answer} (a : Handling H W)
      → EndAnswers one (PutOut count) answer two → HandlesAny rel one a two a
  put_out_handles {count} {answer} a answers values end is =
      let made = answers values end is in
      let after = end_with_log end (with_call end.log (PutOut count) answer) in (
        [],
        given_between end after,
        after,
        one_step (puts_out count answer made.0 refl (same a)),
        made.1,
      )

  -- All that is owed was released.
  pub released_handles : {one two : End} (result : Result (Unit {0}) EndRefusal)
      (a : Handling H W) → EndReleases one result two → Handles rel [] one a two a
  released_handles result a made values end is =
      let (after, may, there) = made values end is in
      (after, more (releases result may (same a)) none, there)

  -- Shares were sent.
  pub pumped_handles : {one two : End} (most : ℕ) (result : Result ℕ EndRefusal)
      (a : Handling H W) → EndPumpsSome one most result two → Handles rel [] one a two a
  pumped_handles most result a made values end is =
      let (after, may, there) = made values end is in
      (after, more (pumps most result may (same a)) none, there)

  -- All exchanges have ended, since the connection is over.
  pub closed_handles : {one : End} {b a : Handling H W} → EndsEach rel b a
      → Handles rel [] one a one b
  closed_handles no_more values end is = (end, none, is)
  closed_handles (goes_on so rest) values end is =
      let (after, made, there) = closed_handles rest values end is in
      (after, more (notes refl so) made, there)
  closed_handles (ends_one id over rest) values end is =
      let (after, made, there) = closed_handles rest values end is in
      (after, more (steps.ends id Closed over tt refl) made, there)

  -- An exchange has ended, if there was one, for a cause that is so.
  pub ended_handles : (one : End) {a b : Handling H W} (id : ℕ) (cause : Cause)
      (stage : Stage) → EndsAny rel id cause a b
      → ((kept : Kept W) → exchange_at id a.entries ≡ Some kept → kept.stage ≡ stage)
      → ((values : Values) (end : EndLog) → EndRepresents values one end
      → IsOverFor end id stage cause) → Handles rel [] one a one b
  ended_handles one id cause stage (inl over) at so values end is = (
    end,
    more (steps.ends id cause over
        (rw (at over.kept over.was) (so values end is)) refl) none,
    is,
  )
  ended_handles one id cause stage (inr never) at so values end is =
      (end, more (notes refl never.1) none, is)

  -- Octets were taken, and nothing was handed out;
  pub took_handles : {one two : End} (a : Handling H W) (piece : List ℕ) (taken : EndTaken)
      → EndTakes one piece (Ok taken) two → HandsNothing (answer_of_taken (Ok taken))
      → Handles rel (take taken.used piece) one a two a
  took_handles a piece taken made nothing values end is =
      let (after, may, there) = made values end is in (
        after,
        one_step (steps.takes piece (take taken.used piece) (answer_of_taken (Ok taken)) may
            (uses_first may) nothing (same a)),
        there,
      )

  -- or the connection has failed.
  pub failed_handles : {one two : End} (a : Handling H W) (piece : List ℕ) (fault : ConnFault)
      (stop : Stop) → EndTakes one piece (Err fault) two
      → HandlesPiece rel piece one a two a (Err stop)
  failed_handles a piece fault stop made values end is =
      let (after, may, there) = made values end is in
      let (used, uses) = uses_first may in (
        used,
        uses.rest,
        uses.first,
        (
          after,
          one_step (steps.takes piece used (answer_of_taken (Err fault)) may uses tt (same a)),
          there,
        ),
      )

  -- What was handed out was told.
  pub told_handles : {one two : End} {a b : Handling H W} (piece : List ℕ) (count : ℕ)
      (handed : Handed) → EndHands one piece count handed two → Tells rel handed a b
      → Handles rel (take count piece) one a two b
  told_handles piece count handed made told values end is =
      let (after, may, there) = made values end is in (
        after,
        one_step (steps.tells piece (take count piece) count handed may (uses_first may) told),
        there,
      )

  -- There was no memory for it.
  pub untold_handles : {one two : End} {a b : Handling H W} (piece : List ℕ) (count : ℕ)
      (handed : Handed) → EndHands one piece count handed two → IsSameHandling a b
      → HandlesPiece rel piece one a two b (Err Memory)
  untold_handles piece count handed made so values end is =
      let (after, may, there) = made values end is in (
        take count piece,
        drop count piece,
        sym (take-append-drop count piece),
        (
          after,
          one_step (steps.lacks_memory piece (take count piece) count handed may
              (uses_first may) so),
          there,
        ),
      )

  -- The next of an answer was given.
  pub gave_handles : {one two : End} {a b : Handling H W} (id : ℕ) (kept : Kept W)
      (result : Result Stage Stop) (stage : Stage) → exchange_at id a.entries ≡ Some kept
      → GivesStage one id kept.to_head kept.refused kept.stage result two
      → IsNextStage result stage → b.handler ≡ a.handler
      → SetsKept id (Some (record kept { stage = stage })) a.entries b.entries
      → Handles rel [] one a two b
  gave_handles id kept result stage was made so handler now values end is =
      let (after, gives, there) = made values end is in (
        after,
        more (steps.gives id (record {
          kept = kept;
          result = result;
          stage = stage;
          was = was;
          gives = gives;
          is = so;
          handler = handler;
          now = now;
        })) none,
        there,
      )

  -- A handler was asked for a part, and that was sent.
  pub asked_handles : {one two : End} {a : Handling H W} (mid : Handling H W) {b : Handling H W}
      (id : ℕ) (room : List ℕ) (part : Result Part HandlerFault) (stage : Stage)
      (found : Kept W) → IsAskedFor one.conn id (length room) a.entries
      → ChangesAny (AskedPart rel room part) id a mid
      → EndSendsPart one id part room stage two → exchange_at id mid.entries ≡ Some found
      → b.handler ≡ mid.handler
      → SetsKept id (Some (record found { stage = stage })) mid.entries b.entries
      → Handles rel [] one a two b
  asked_handles mid id room part stage found may (inr never) made at handler now values end is =
      absurd (let no = sym at ∙ (never.1.kept id ∙ never.0) in cc)
  asked_handles {a} mid {b} id room part stage found may (inl one_part) made at handler now values
      end is =
      let (after, sends, there) = made values end is in
      let same_one : Some found ≡ Some one_part.next = sym at ∙ one_part.now.at in
      let it : found ≡ one_part.next = cc in (
        after,
        more (steps.asks id (record {
          kept = one_part.kept;
          next = one_part.next;
          stage = stage;
          room = room;
          part = part;
          was = one_part.was;
          due = part_due one_part.kept.stage
              (sym (ap is_part_due_at one_part.was) ∙ may.due);
          some = may.some;
          fits = may.fits values end.log is.streams.conn;
          asked = rw handler one_part.told_so;
          sends = sends;
          now = rw (← it) (set_twice id _ _ a.entries mid.entries b.entries one_part.now now);
        })) none,
        there,
      )

  -- There was nothing to ask.
  pub unasked_handles : {one two : End} {a b : Handling H W} (id : ℕ) (room : List ℕ)
      (stage : Stage) → EndSendsPart one id (Err Failed) room stage two → IsSameHandling a b
      → Handles rel [] one a two b
  unasked_handles {a} {b} id room stage made so values end is =
      let (after, sends, there) = made values end is in
      (after, more {next = after} (notes sends.1 so) none, there)

  -- The stream of a request that was refused is to be reset.
  pub stops_handles : (one : End) {a b : Handling H W} (id : ℕ) (kept : Kept W)
      → exchange_at id a.entries ≡ Some kept
      → ((values : Values) (end : EndLog) → EndRepresents values one end
      → MayStopReading end id kept)
      → SetsKept id (Some (record kept { stage = Resets NoError })) a.entries b.entries
      → b.handler ≡ a.handler → Handles rel [] one a one b
  stops_handles one id kept was may now handler values end is =
      (end, more (steps.stops_reading id kept was (may values end is) now handler refl) none, is)

  -- A handler may be asked again.
  pub woke_handles : (one : End) {a b : Handling H W} (id : ℕ) (kept : Kept W)
      → exchange_at id a.entries ≡ Some kept
      → SetsKept id (Some (awake kept)) a.entries b.entries → b.handler ≡ a.handler
      → Handles rel [] one a one b
  woke_handles one id kept was now handler values end is =
      (end, more (steps.wakes id kept was now handler refl) none, is)
