-- What is made of a connection, one thing after another.
use Rattle.std.proofs.Common.{◌≡◌, ◌⊎◌, ◌∙◌, inl, inr, refl, sym, subst, ap, append-nil, drop}
use Rattle.std.proofs.lemmas.List.{drop-append-le}
use Rattle.std.specs.Prelude.{ℕ, Bool, true, false, List, [], ◌++◌, ◌||◌, ◌≤◌, length}
use Rattle.std.specs.Prelude.{Err, None, Option, Some}
use Rattle.h2_frame.specs.declared.code.Code.{Code}
use Rattle.h2_spec_log.specs.Acts.{Values}
use Rattle.h2_ends.specs.declared.roles.EndAs.{EndAs}
use Rattle.h2_ends.specs.Ends.{EndLog}
use Rattle.h2_ends.specs.Represents.{EndRepresents}
use Rattle.h2_server.specs.declared.connection.Connection.{Connection}
use Rattle.h2_server.specs.declared.connection.Phase.{Phase}
use Rattle.h2_server.specs.declared.connection.Phase.TheVariants.{Open, Ending, Failing, Over}
use Rattle.h2_server.specs.declared.deadlines.Deadlines.{Deadlines}
use Rattle.h2_server.specs.declared.exchanges.Exchanges.{Exchanges}
use Rattle.h2_server.specs.declared.limits.ConnectionLimits.{ConnectionLimits}
use Rattle.h2_server.specs.declared.stop.Stop.{Stop}
use Rattle.h2_server.specs.declared.stop.Stop.TheVariants as stops
use Rattle.h2_server.specs.Connections.{IsSameOrRefused, MadeOwn, Makes, MakesOwn, input_kept}
use Rattle.h2_server.specs.Connections.{phase_passed}
use Rattle.h2_server.specs.Exchanges.{Handling, Relations, handling_of}
use Rattle.h2_server.specs.Failing.{IsSameOrStopped, StopsAt, phase_stopped}
use Rattle.h2_server.specs.Steps.{Handles, HandlesPiece, Steps, loses_by, none}
use Rattle.h2_server.specs.Phases.{is_phase_down, is_phase_failing, is_phase_over}
use Rattle.h2_server.proofs.FailingPhase.{KeepsFailing}
use Rattle.h2_server.proofs.GoneOutput.{Gives}
use Rattle.h2_server.proofs.StepsMade.{steps_losing, steps_may_lose, steps_then}

-- What can't go on has failed or is closed; closed, where something may have been lost.
pub stopped_down : (stop : Stop) (failed : Option Code) (time : ℕ)
    → is_phase_down (phase_stopped stop failed time) ≡ true
stopped_down stops.Failed (Some code) time = refl
stopped_down stops.Failed None time = refl
stopped_down stops.TooManyResets failed time = refl
stopped_down stops.Memory failed time = refl

pub lossy_over : (stop : Stop) (failed : Option Code) (time : ℕ) → loses_by stop ≡ true
    → is_phase_over (phase_stopped stop failed time) ≡ true
lossy_over stops.Failed failed time loses = absurd (cc)
lossy_over stops.TooManyResets failed time loses = absurd (cc)
lossy_over stops.Memory failed time loses = refl

-- If one of two loses something, the connection is closed then.
both_lost : (one two : Bool) {mid end : Bool} → (one ≡ true → mid ≡ true)
    → (mid ≡ true → end ≡ true) → (two ≡ true → end ≡ true) → (one || two) ≡ true → end ≡ true
both_lost true two first stays second is = stays (first refl)
both_lost false two first stays second is = second is

-- What is kept by one and then by another.
kept_both : {A : Type 0} {a b c : A} {mid end : Bool} → (b ≡ a) ⊎ (mid ≡ true)
    → (c ≡ b) ⊎ (end ≡ true) → (mid ≡ true → end ≡ true) → (c ≡ a) ⊎ (end ≡ true)
kept_both (inl first) (inl second) stays = inl (second ∙ first)
kept_both (inl first) (inr down) stays = inr down
kept_both (inr down) second stays = inr (stays down)

kept_turned : {A : Type 0} {a b : A} {end : Bool} → (b ≡ a) ⊎ (end ≡ true)
    → (a ≡ b) ⊎ (end ≡ true)
kept_turned (inl is) = inl (sym is)
kept_turned (inr down) = inr down

-- What was left over is kept by one, and then by another.
kept_after : {A : Type 0} {rest mid two : A} {down : Bool} → (rest ≡ mid) ⊎ (down ≡ true)
    → (two ≡ mid) ⊎ (down ≡ true) → (rest ≡ two) ⊎ (down ≡ true)
kept_after (inl is) (inl same) = inl (is ∙ sym same)
kept_after (inl is) (inr down) = inr down
kept_after (inr down) then = inr down

module _ {H W : Type 0} {rel : Relations H W} where
  -- Steps of one of two are steps in which what either loses may be lost.
  lose_first : (one two : Bool) {last : EndLog} {new : Handling H W} {first : EndLog}
      {old : Handling H W} {used given : List ℕ} → Steps rel one last new used given first old
      → Steps rel (one || two) last new used given first old
  lose_first true two made = made
  lose_first false true made = steps_may_lose made
  lose_first false false made = made

  lose_second : (one two : Bool) {last : EndLog} {new : Handling H W} {first : EndLog}
      {old : Handling H W} {used given : List ℕ} → Steps rel two last new used given first old
      → Steps rel (one || two) last new used given first old
  lose_second true two made = steps_may_lose made
  lose_second false two made = made

  -- What was made of it where only what no definition reads has changed.
  pub own_same : (old new : Connection H W) → new.server ≡ old.server
      → new.exchanges ≡ old.exchanges → input_kept new ≡ input_kept old
      → (is_phase_failing new.phase ≡ true → is_phase_failing old.phase ≡ true)
      → MakesOwn rel [] old new
  own_same old new server exchanges kept phase values end is = record {
    kept = inl kept;
    loses = false;
    closed = λ no. absurd (cc);
    after = end;
    steps = subst (λ (e : Exchanges H W). Steps rel false end (handling_of e) [] [] end
        (handling_of old.exchanges)) (sym exchanges) none;
    represents = subst (λ (s : EndAs _). EndRepresents values s.end end) (sym server) is;
    failing = λ so failing. so (phase failing);
  }

  -- The server and its handler have made steps without input.
  pub own_handles : (old new : Connection H W)
      → Handles rel [] old.server.end (handling_of old.exchanges) new.server.end
      (handling_of new.exchanges)
      → (input_kept new ≡ input_kept old) ⊎ (is_phase_down new.phase ≡ true)
      → KeepsFailing old new → MakesOwn rel [] old new
  own_handles old new handles kept keeps values end is =
      let made = handles values end is in record {
        kept = kept;
        loses = false;
        closed = λ no. absurd (cc);
        after = made.0;
        steps = made.1;
        represents = made.2;
        failing = keeps.keeps values end made.0 is made.2;
      }

  -- The server has given out these octets.
  pub own_gives : {gone : List ℕ} (old new : Connection H W)
      → Gives rel gone old.server.end new.server.end (handling_of old.exchanges)
      → new.exchanges ≡ old.exchanges → input_kept new ≡ input_kept old
      → KeepsFailing old new → MakesOwn rel gone old new
  own_gives {gone} old new gives same kept keeps values end is =
      let made = gives values end is in record {
        kept = inl kept;
        loses = false;
        closed = λ no. absurd (cc);
        after = made.0;
        steps = subst (λ (e : Exchanges H W). Steps rel false made.0 (handling_of e) [] gone end
            (handling_of old.exchanges)) (sym same) made.1;
        represents = made.2;
        failing = keeps.keeps values end made.0 is made.2;
      }

  -- The server and its handler made steps, and then something else was made of it.
  pub handles_then : {gone : List ℕ} (one mid two : Connection H W)
      → Handles rel [] one.server.end (handling_of one.exchanges) mid.server.end
      (handling_of mid.exchanges)
      → input_kept mid ≡ input_kept one → KeepsFailing one mid → MakesOwn rel gone mid two
      → MakesOwn rel gone one two
  handles_then one mid two first same keeps second values end is =
      let (after, made, there) = first values end is in
      let then = second values after there in record {
        kept = kept_both {mid = false} (inl same) then.kept (λ no. absurd (cc));
        loses = then.loses;
        closed = then.closed;
        after = then.after;
        steps = steps_then (steps_losing then.loses made) then.steps;
        represents = then.represents;
        failing = λ so. then.failing (keeps.keeps values end after is there so);
      }

  -- One thing was made of it, and then another.
  pub made_then : {gone : List ℕ} {values : Values} {end : EndLog} (one two three : Connection H W)
      → MadeOwn rel gone values end one two → MakesOwn rel [] two three
      → (is_phase_over two.phase ≡ true → is_phase_over three.phase ≡ true)
      → (is_phase_down two.phase ≡ true → is_phase_down three.phase ≡ true)
      → MadeOwn rel gone values end one three
  made_then {gone} {values} {end} one two three a second overs downs =
      let b = second values a.after a.represents in record {
        kept = kept_both a.kept b.kept downs;
        loses = a.loses || b.loses;
        closed = both_lost a.loses b.loses a.closed overs b.closed;
        after = b.after;
        steps = subst (λ (octets : List ℕ). Steps rel (a.loses || b.loses) b.after
            (handling_of three.exchanges) [] octets end (handling_of one.exchanges))
            (append-nil gone)
            (steps_then (lose_first a.loses b.loses a.steps) (lose_second a.loses b.loses b.steps));
        represents = b.represents;
        failing = λ so. b.failing (a.failing so);
      }

  pub own_then : {gone : List ℕ} (one two three : Connection H W) → MakesOwn rel gone one two
      → MakesOwn rel [] two three
      → (is_phase_over two.phase ≡ true → is_phase_over three.phase ≡ true)
      → (is_phase_down two.phase ≡ true → is_phase_down three.phase ≡ true)
      → MakesOwn rel gone one three
  own_then one two three first second overs downs values end is =
      made_then one two three (first values end is) second overs downs

  -- Nothing more than counting has changed it.
  pub own_counted : {gone : List ℕ} (one two three : Connection H W)
      → three ≡ record two { holds = three.holds; ready = three.ready }
      → MakesOwn rel gone one two → MakesOwn rel gone one three
  own_counted {gone} one two three counted makes values end is =
      let a = makes values end is in
      subst (λ (c : Connection H W). MadeOwn rel gone values end one c) (sym counted) (record {
        kept = a.kept;
        loses = a.loses;
        closed = a.closed;
        after = a.after;
        steps = a.steps;
        represents = a.represents;
        failing = a.failing;
      })

  -- What was made without input was made, where none came.
  pub own_makes : {gone : List ℕ} (old new : Connection H W) → MakesOwn rel gone old new
      → Makes rel [] gone old new
  own_makes old new makes values end is =
      let a = makes values end is in record {
        used = [];
        rest = input_kept old;
        order = append-nil (input_kept old);
        kept = kept_turned a.kept;
        loses = a.loses;
        closed = a.closed;
        after = a.after;
        steps = a.steps;
        represents = a.represents;
        failing = a.failing;
      }

  -- Octets that came to one that is down are dropped.
  pub drops : (old new : Connection H W) (came : List ℕ) → is_phase_down new.phase ≡ true
      → new.server ≡ old.server → new.exchanges ≡ old.exchanges → new.phase ≡ old.phase
      → Makes rel came [] old new
  drops old new came down server exchanges phase values end is = record {
    used = [];
    rest = input_kept old ++ came;
    order = refl;
    kept = inr down;
    loses = false;
    closed = λ no. absurd (cc);
    after = end;
    steps = subst (λ (e : Exchanges H W). Steps rel false end (handling_of e) [] [] end
        (handling_of old.exchanges)) (sym exchanges) none;
    represents = subst (λ (s : EndAs _). EndRepresents values s.end end) (sym server) is;
    failing = λ so failing. so (ap is_phase_failing (sym phase) ∙ failing);
  }

  -- Octets were used, the others are kept,
  pub uses_kept : (old new : Connection H W) (came used : List ℕ)
      → Handles rel used old.server.end (handling_of old.exchanges) new.server.end
      (handling_of new.exchanges)
      → input_kept old ++ came ≡ used ++ input_kept new → KeepsFailing old new
      → Makes rel came [] old new
  uses_kept old new came used handles order keeps values end is =
      let made = handles values end is in record {
        used = used;
        rest = input_kept new;
        order = order;
        kept = inl refl;
        loses = false;
        closed = λ no. absurd (cc);
        after = made.0;
        steps = made.1;
        represents = made.2;
        failing = keeps.keeps values end made.0 is made.2;
      }

  -- and then something else was made of it.
  pub uses_then : (one mid two : Connection H W) (came used rest : List ℕ)
      → Handles rel used one.server.end (handling_of one.exchanges) mid.server.end
      (handling_of mid.exchanges)
      → input_kept one ++ came ≡ used ++ rest
      → (rest ≡ input_kept mid) ⊎ (is_phase_down two.phase ≡ true) → KeepsFailing one mid
      → MakesOwn rel [] mid two → Makes rel came [] one two
  uses_then one mid two came used rest first order left keeps second values end is =
      let (after, made, there) = first values end is in
      let then = second values after there in record {
        used = used;
        rest = rest;
        order = order;
        kept = kept_after left then.kept;
        loses = then.loses;
        closed = then.closed;
        after = then.after;
        steps = subst (λ (octets : List ℕ). Steps rel then.loses then.after
            (handling_of two.exchanges) octets [] end (handling_of one.exchanges))
            (append-nil used) (steps_then (steps_losing then.loses made) then.steps);
        represents = then.represents;
        failing = λ so. then.failing (keeps.keeps values end after is there so);
      }

  -- It can't go on once first ones of a piece were used.
  pub stops_then : (one mid two : Connection H W) (came piece : List ℕ) (stop : Stop)
      → input_kept one ++ came ≡ piece
      → HandlesPiece rel piece one.server.end (handling_of one.exchanges) mid.server.end
      (handling_of mid.exchanges) (Err stop)
      → KeepsFailing one mid → MakesOwn rel [] mid two → StopsAt stop mid two.phase
      → Makes rel came [] one two
  stops_then one mid two came piece stop all first keeps second (failed, so, phase) values end is =
      let (used, rest, split, (after, made, there)) = first values end is in
      let then = second values after there in record {
        used = used;
        rest = rest;
        order = all ∙ split;
        kept = inr (ap is_phase_down phase ∙ stopped_down stop failed mid.watch.time);
        loses = loses_by stop || then.loses;
        closed = both_lost (loses_by stop) then.loses
            (λ loses. ap is_phase_over phase ∙ lossy_over stop failed mid.watch.time loses)
            (λ over. over) then.closed;
        after = then.after;
        steps = subst (λ (octets : List ℕ). Steps rel (loses_by stop || then.loses) then.after
            (handling_of two.exchanges) octets [] end (handling_of one.exchanges))
            (append-nil used) (steps_then (lose_first (loses_by stop) then.loses made)
            (lose_second (loses_by stop) then.loses then.steps));
        represents = then.represents;
        failing = λ so. then.failing (keeps.keeps values end after is there so);
      }

-- So many octets of those that came were used, and the others are kept in addition.
kept_more : (used : ℕ) (items all more : List ℕ) → used ≤ length items → all ≡ items ++ more
    → drop used all ≡ drop used items ++ more
kept_more used items all more within is = rw is (drop-append-le used items more within)

-- So what came is in order.
pub kept_order : (kept came first : List ℕ) (used : ℕ) (items all more : List ℕ)
    → used ≤ length items → all ≡ items ++ more
    → kept ++ came ≡ first ++ (drop used items ++ more) → kept ++ came ≡ first ++ drop used all
kept_order kept came first used items all more within is order =
    order
    ∙ ap (λ (rest : List ℕ). first ++ rest) (sym (kept_more used items all more within is))

-- What is closed stays so, whatever has come, has its turn or has gone, and as time passes.
pub stopped_over : (phase new : Phase) (time : ℕ) → is_phase_over phase ≡ true
    → IsSameOrStopped phase time new → new ≡ phase
stopped_over Open new time over is = absurd (cc)
stopped_over (Ending why since) new time over is = absurd (cc)
stopped_over (Failing why since) new time over is = absurd (cc)
stopped_over (Over why) new time over is = is

pub refused_over : (phase new : Phase) → is_phase_over phase ≡ true → IsSameOrRefused phase new
    → new ≡ phase
refused_over Open new over is = absurd (cc)
refused_over (Ending why since) new over is = absurd (cc)
refused_over (Failing why since) new over is = absurd (cc)
refused_over (Over why) new over is = is

pub passed_over : (phase : Phase) (deadlines : Deadlines) (limits : ConnectionLimits) (time : ℕ)
    (new : Phase) → is_phase_over phase ≡ true → phase_passed phase deadlines limits time new
    → new ≡ phase
passed_over Open deadlines limits time new over is = absurd (cc)
passed_over (Ending why since) deadlines limits time new over is = absurd (cc)
passed_over (Failing why since) deadlines limits time new over is = absurd (cc)
passed_over (Over why) deadlines limits time new over is = is
