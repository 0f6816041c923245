-- What a server has left once the input has ended, by what its connection answers of itself.
use Rattle.h2_engines.proofs.Names.{◌≡◌, inl, inr, ℕ, ◌<◌, ◌≤◌, Bool, true, false, List, [], ◌∷◌}
use Rattle.h2_engines.proofs.Names.{length, Option, Some, None, Ok, Err, refl, sym, ap, ◌∙◌, arith}
use Rattle.h2_engines.proofs.Names.{both_ways, Code, Log, EndLog, and_parts, or_parts, eqb-true}
use Rattle.h2_engines.proofs.Names.{false_from_ne_true, active, FinishedSo, ◌≢◌, if◌then◌else◌}
use Rattle.h2_engines.proofs.Names.{next_active, reader_next_live, reader_held}
use Rattle.std.proofs.Common.{◌==◌, ◌||◌, is_some, zero, suc}
use Rattle.h2_laws_log.proofs.NextStreams.{next_passes, next_found}
use Rattle.h2_ends.proofs.PumpSteps.{zero_inactive}
use Rattle.h2_link.specs.declared.error.LinkError.TheVariants as errors

-- How many octets are held while the connection is up.
held_by : (failed : Option Code) (count : ℕ) → failed ≡ None
    → (if is_some failed then 0 else count) ≡ count
held_by None count up = refl
held_by (Some code) count up = cc

held_up : (log : Log) {held : ℕ} → held ≡ reader_held log → log.failed ≡ None
    → held ≡ length log.unparsed
held_up log is up = is ∙ held_by log.failed (length log.unparsed) up

none_held : (octets : List ℕ) → length octets ≤ 0 → octets ≡ []
none_held [] few = refl
none_held (octet ∷ octets) few = absurd (omega arith)

test_by : (next : ℕ) → next == 0 ≡ false → next ≢ 0
test_by next some none = both_ways (next == 0) some (rw none refl)

-- What the reader of the next stream answers, by its test.
some_by : (b : Bool) (next id : ℕ) → (if b then None else Some next) ≡ Some id
    → (b ≡ false) × (next ≡ id)
some_by true next id is = cc
some_by false next id is = (refl, cc)

none_by : (b : Bool) (next : ℕ) → (if b then None else Some next) ≡ None → b ≡ true
none_by true next is = refl
none_by false next is = cc

is_next : (log : Log) (last id : ℕ) → reader_next_live log last ≡ Some id → active log id ≡ true
is_next log last id is =
    let both = some_by (is_some log.failed || next_active log last == 0) _ _ is in
    let some = (or_parts (is_some log.failed) (next_active log last == 0) both.0).1 in
    ap (λ (i : ℕ). active log i) (sym both.1) ∙ (and_parts _ _ (next_passes _ _ (test_by _ some))).0

some_next : (next : Option ℕ) → is_some next ≡ true → (id : ℕ) × (next ≡ Some id)
some_next None some = cc
some_next (Some id) some = (id, refl)

up_by : (failed none : Bool) → failed ≡ false → (failed || none) ≡ true → none ≡ true
up_by true none up is = cc
up_by false none up is = is

none_above : (log : Log) → log.failed ≡ None → reader_next_live log 0 ≡ None → (i : ℕ) → 0 < i
    → active log i ≡ false
none_above log up is i above = false_from_ne_true _ (λ alive.
    let test = up_by (is_some log.failed) (next_active log 0 == 0) (ap is_some up)
    (none_by (is_some log.failed || next_active log 0 == 0) (next_active log 0) is) in
    (next_found log 0 i alive above).0 (eqb-true (next_active log 0) 0 test))

none_active : (log : Log) → log.failed ≡ None → reader_next_live log 0 ≡ None → (i : ℕ)
    → active log i ≡ false
none_active log up is zero = zero_inactive log
none_active log up is (suc i) = none_above log up is (suc i) (omega arith)

no_next : (next : Option ℕ) → is_some next ≡ false → next ≡ None
no_next None none = refl
no_next (Some id) none = cc

-- Nothing is held, and no stream is active.
pub finishes_at_rest : (end : EndLog) (answered : ℕ) {held : ℕ} {next : Option ℕ}
    → held ≡ reader_held end.log → next ≡ reader_next_live end.log 0 → held ≤ 0
    → is_some next ≡ false → FinishedSo end answered (Ok answered)
unfolding FinishedSo
finishes_at_rest end answered {next} held_is next_is few none = (
  refl,
  λ up. record {
    up = up;
    nothing_held = none_held end.log.unparsed (omega (arith, held_up end.log held_is up));
    none_active = none_active end.log up (sym next_is ∙ no_next next none);
  },
)

-- A part of the preface or of a frame is held;
pub finishes_held : (end : EndLog) (answered : ℕ) {held : ℕ} → held ≡ reader_held end.log
    → 0 < held → FinishedSo end answered (Err errors.CutOff)
unfolding FinishedSo
finishes_held end answered held_is some = (
  refl,
  λ up. (
    up,
    inl (λ none. let same = ap (λ (octets : List ℕ). length octets) none in
        omega (arith, held_up end.log held_is up, same)),
  ),
)

-- or a stream is active.
pub finishes_active : (end : EndLog) (answered : ℕ) {next : Option ℕ}
    → next ≡ reader_next_live end.log 0 → is_some next ≡ true
    → FinishedSo end answered (Err errors.CutOff)
unfolding FinishedSo
finishes_active end answered {next} next_is some =
    let found = some_next next some in
    (refl, λ up. (up, inr (found.0, is_next end.log 0 found.0 (sym next_is ∙ found.1))))
