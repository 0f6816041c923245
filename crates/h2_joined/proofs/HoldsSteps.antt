-- What taking octets, losing them and refusing a stream make of a pair.
use Rattle.h2_joined.proofs.Names
use Names.{◌<◌, ◌++◌, drop, Option, refl, subst, Code, Values, Answer, Refuse, Event, Failed, calls}
use Names.{◌^◌, [], sym, ap, ◌∙◌, Log, Took, Half, Side, ◌≡◌, ◌≢◌, ℕ, List, Some, None, arith}
use Names.{append-nil, InternalError, MayAnswer, with_call, MayTake, given_since, IsTypedAct}
use Names.{drop-append_seam, log_after_take, call_gives_nothing, AreUndisturbed, IsUndisturbedStep}
use Rattle.h2_laws_pair.specs.Steps.{no_step, then_step}
use Rattle.h2_laws_pair.specs.Pairs.{loses}
use Rattle.h2_laws_pair.proofs.StepTakes.{take_is_steps}
use Rattle.h2_joined.proofs.HoldsSides.{IsPairAt, goes_on_at}

-- A pair that is undisturbed where something holds is so where that follows.
pub where_at : (side : Side) (client_values server_values : Values) (one other : Half)
    (calm later : Type 0) → IsPairAt side client_values server_values one other calm
    → (later → calm) → IsPairAt side client_values server_values one other later
unfolding AreUndisturbed
where_at side client_values server_values one other calm later pair follows =
    goes_on_at _ _ _ _ _ _ _ _ _ pair (no_step one other) (λ had. (follows had, tt))

-- an end once its connection has this log, with these octets on the pipe to it
abbrev pub with_pipe : Half → Log → List ℕ → Half
with_pipe one log incoming = record one { log = log; incoming = incoming }

-- What a call of `take` has not used lies on the pipe still.
pub took_at : (side : Side) (client_values server_values : Values) (one other : Half)
    (calm : Type 0) (piece later : List ℕ) (count : ℕ) (event : Option Event) (log : Log)
    → IsPairAt side client_values server_values one other calm → one.incoming ≡ piece ++ later
    → MayTake one.log piece (Took count event) log
    → IsPairAt side client_values server_values
    (with_pipe one log (drop count piece ++ later)) other calm
took_at side client_values server_values one other calm piece later count event log pair came may =
    let steps = take_is_steps one other piece later (Took count event) log came may in
    let taken = steps.0 in
    let unused : drop count piece ≡ taken.unused = ap (drop count) taken.joined ∙ ap
    (λ (used : ℕ). drop used (taken.octets ++ taken.unused)) (sym taken.used) ∙ drop-append_seam
    taken.octets taken.unused in
    subst (λ (left : List ℕ). IsPairAt side client_values server_values
    (with_pipe one log (left ++ later)) other calm) (sym unused) (goes_on_at _ _ _ _ _
    _ _ _ _ pair taken.steps (λ had. (had, steps.1 (λ is. cc))))

-- an end that has lost octets, with these left on the pipe to it
abbrev pub with_lost : Half → (octets later : List ℕ) → Half
with_lost one octets later = record one { incoming = later; lost = one.lost ++ octets }

-- Octets that come once the connection has failed are lost.
pub loses_at : (side : Side) (client_values server_values : Values) (one other : Half)
    (calm : Type 0) (octets later : List ℕ)
    → IsPairAt side client_values server_values one other calm → one.log.failed ≢ None
    → one.incoming ≡ octets ++ later
    → IsPairAt side client_values server_values (with_lost one octets later) other calm
unfolding AreUndisturbed IsUndisturbedStep
loses_at side client_values server_values one other calm octets later pair failed came =
    goes_on_at _ _ _ _ _ _ _ _ _ pair
    (then_step (no_step one other) (loses octets later failed came)) (λ had. (had, (tt, tt)))

module _ (side : Side) (client_values server_values : Values) (one other : Half) where
  -- Where a call of `take` fails, its octets are lost from the one on that it has not used. The
  -- steps are undisturbed, unless it was out of memory.
  pub failed_at : (calm : Type 0) (piece later : List ℕ) (code : Code) (log : Log)
      → IsPairAt side client_values server_values one other calm → one.incoming ≡ piece ++ later
      → MayTake one.log piece (Failed code) log
      → (lost : List ℕ) × IsPairAt side client_values server_values
      (record { log = log; incoming = later; lost = lost }) other (calm × (code ≢ InternalError))
  failed_at calm piece later code log pair came may =
      let steps = take_is_steps one other piece later (Failed code) log came may in
      let taken = steps.0 in
      let failed : log.failed ≡ Some code =
      (log_after_take one.log log piece (Failed code) may).5 in
      let now = with_pipe one log (taken.unused ++ later) in (
        one.lost ++ taken.unused,
        loses_at side client_values server_values now other (calm × (code ≢ InternalError))
            taken.unused later (goes_on_at side client_values server_values one other now other calm
            (calm × (code ≢ InternalError)) pair taken.steps
            (λ had. (had.0, steps.1 (λ is. had.1 (cc))))) (λ none. cc) refl,
      )

  -- A stream is refused at this end, which gives nothing out. That may disturb the pair.
  pub refused_at : (calm : Type 0) (id code : ℕ) (answer : Answer)
      → IsPairAt side client_values server_values one other calm → id < 2 ^ 31 → code < 2 ^ 32
      → MayAnswer one.log (Refuse id code) answer
      → IsPairAt side client_values server_values (record one
      { log = with_call one.log (Refuse id code) answer }) other ⊥
  unfolding IsTypedAct
  refused_at calm id code answer pair low few may =
      let log = with_call one.log (Refuse id code) answer in
      let more = given_since one.log log in
      let none : more ≡ [] =
      call_gives_nothing one.log (Refuse id code) answer may (λ count is. cc) in
      let same : other.incoming ++ more ≡ other.incoming =
      ap (λ (given : List ℕ). other.incoming ++ given) none ∙ append-nil other.incoming in
      subst (λ (incoming : List ℕ). IsPairAt side client_values server_values
      (record one { log = log }) (record other { incoming = incoming }) ⊥) same
      (goes_on_at side client_values server_values one other (record one { log = log })
      (record other { incoming = other.incoming ++ more }) calm ⊥ pair
      (then_step (no_step one other)
      (calls (Refuse id code) answer (omega (arith, low), few) may)) (λ wrong. absurd wrong))
