-- A piece is handed to an end call by call.
use Rattle.std.proofs.Common.{◌≡◌, ◌≢◌, ℕ, ◌+◌, ◌-◌, ◌≤◌, List, length, take, drop, Some}
use Rattle.std.proofs.Common.{None, Ok, Err, inl, inr, refl, sym, ap, subst, ◌∙◌, arith}
use Rattle.std.proofs.Common.{length-drop}
use Rattle.std.proofs.lemmas.List.{take_rest, drop-drop}
use Rattle.std.specs.Option.{option_map}
use Rattle.h2_frame.specs.declared.code.Code.{Code}
use Rattle.h2_cli.specs.declared.failure.Failure.TheVariants as failures
use Rattle.h2_laws_end.specs.Takes.{Took, Failed, MayTake, TakeAnswer}
use Rattle.h2_laws_end.specs.Replays.{TakesAll, is_done, goes_on, has_fault, IsCalledAgain}
use Rattle.h2_conn.specs.declared.conn.Conn.{Conn}
use Rattle.h2_conn.specs.declared.taken.Taken.{Taken}
use Rattle.h2_conn.specs.declared.taken.ConnFault.{ConnFault}
use Rattle.h2_conn.specs.Conn.{ConnTakes}
use Rattle.h2_conn.specs.Events.{LentEvent, lent_value}
use Rattle.h2_events.specs.declared.replayer.ReplayError.{ReplayError}
use Rattle.h2_events.specs.declared.replayer.ReplayError.TheVariants as errors
use Rattle.h2_events.specs.Replayer.{HandsPiece, TakesPrefix, ReportsCode, ReplayErrorReports}

-- what is left of a piece
abbrev pub left : List ℕ → ℕ → List ℕ
left piece done = take (length piece - done) (drop done piece)

-- a call uses no more than is left
pub used_within : (piece : List ℕ) (done used : ℕ) → done ≤ length piece
    → used ≤ length (left piece done) → done + used ≤ length piece
used_within piece done used within unused =
    let unused_length : used ≤ length (drop done piece) = rw take_rest at unused in
    omega (arith, simp length-drop at unused_length)

-- a call after which `take` is called again
goes_on_after : (old now new : Conn) (piece : List ℕ) (done : ℕ) (taken : Taken)
    → TakesPrefix old piece done now → ConnTakes now (left piece done) (Ok taken) new
    → IsCalledAgain (drop done piece) taken.used (option_map lent_value taken.event)
    → TakesPrefix old piece (done + taken.used) new
goes_on_after old now new piece done taken before call again values log represents =
    let (between, same, continues) = before values log represents in
    let (next, may, after_it) = call values between same in
    let answer = Took taken.used (option_map lent_value taken.event) in
    let whole : MayTake between (drop done piece) answer next =
    subst (λ (octets : List ℕ). MayTake between octets answer next) (take_rest piece done) may in (
      next,
      after_it,
      λ fault after more. continues fault after (goes_on (drop done piece) taken.used
          (option_map lent_value taken.event) fault whole again
          (subst (λ (octets : List ℕ). TakesAll next octets fault after)
          (sym (drop-drop taken.used done piece)) more)),
    )

-- after an event
pub goes_on_after_event : (old now new : Conn) (piece : List ℕ) (done : ℕ) (taken : Taken)
    (event : LentEvent) → TakesPrefix old piece done now
    → ConnTakes now (left piece done) (Ok taken) new → taken.event ≡ Some event
    → TakesPrefix old piece (done + taken.used) new
goes_on_after_event old now new piece done taken event before call reported =
    goes_on_after old now new piece done taken before call
    (inr (λ none. some_none (lent_value event)
    (sym (ap (option_map lent_value) reported) ∙ none)))
  where
    some_none : {A : Type 0} (value : A) → Some value ≡ None → ⊥
    some_none value is = cc

-- without an event, before the piece was used
pub goes_on_inside : (old now new : Conn) (piece : List ℕ) (done : ℕ) (taken : Taken)
    → done ≤ length piece → taken.used ≤ length (left piece done)
    → done + taken.used ≢ length piece → TakesPrefix old piece done now
    → ConnTakes now (left piece done) (Ok taken) new
    → TakesPrefix old piece (done + taken.used) new
goes_on_inside old now new piece done taken within unused more before call =
    let unused_length : taken.used ≤ length (drop done piece) = rw take_rest at unused in
    goes_on_after old now new piece done taken before call
    (inl (simp length-drop (omega (arith, simp length-drop at unused_length))))

-- once the piece was used and nothing is reported
pub all_taken : (old now new : Conn) (piece : List ℕ) (done : ℕ) (taken : Taken)
    → TakesPrefix old piece done now → ConnTakes now (left piece done) (Ok taken) new
    → taken.event ≡ None → done + taken.used ≡ length piece → HandsPiece old piece None new
all_taken old now new piece done taken before call silent whole values log represents =
    let (between, same, continues) = before values log represents in
    let (next, may, after_it) = call values between same in
    let count : taken.used ≡ length (drop done piece) =
    simp length-drop (omega (arith, whole)) in
    let answer : TakeAnswer = Took (length (drop done piece)) None in
    let said : Took taken.used (option_map lent_value taken.event) ≡ answer =
    rw (count, silent) refl in
    let may_so : MayTake between (left piece done) answer next =
    subst (λ (answered : TakeAnswer). MayTake between (left piece done) answered next) said may in
    let all : MayTake between (drop done piece) answer next =
    subst (λ (octets : List ℕ). MayTake between octets answer next) (take_rest piece done) may_so in
    (next, continues None next (is_done (drop done piece) all), after_it)

-- where the connection fails
pub fails_in_piece : (old now new : Conn) (piece : List ℕ) (done : ℕ) (fault : ConnFault)
    (error : ReplayError) → TakesPrefix old piece done now
    → ConnTakes now (left piece done) (Err fault) new → ReportsCode fault.code error
    → ReplayErrorReports old piece error new
fails_in_piece old now new piece done fault (errors.Failed failure) before call
    (code_is, failure_is) = λ bad. memory_is_not (sym failure_is ∙ bad)
  where
    memory_is_not : failures.Memory ≡ failures.BadHex → ⊥
    memory_is_not is = cc
fails_in_piece old now new piece done fault (errors.Fault code) before call (code_is, theirs) = (
  λ values log represents.
      let (between, same, continues) = before values log represents in
      let (next, may, after_it) = call values between same in
      let said : MayTake between (left piece done) (Failed code) next =
      subst (λ (other : Code). MayTake between (left piece done) (Failed other) next) (sym code_is)
      may in
      let all : MayTake between (drop done piece) (Failed code) next =
      subst (λ (octets : List ℕ). MayTake between octets (Failed code) next) (take_rest piece done)
      said in
      (next, continues (Some code) next (has_fault (drop done piece) code all), after_it),
  λ internal. theirs (sym code_is ∙ internal),
)
