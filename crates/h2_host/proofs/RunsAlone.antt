-- Whatever happens at the places of a host, a connection is what its own moves make of it.
use Rattle.std.specs.Prelude.{◌≡◌, ◌≢◌, ◌≤◌, ◌==◌, ◌&&◌, ℕ, List, [], ◌∷◌, true}
use Rattle.std.specs.Prelude.{false, if◌then◌else◌, Some}
use Rattle.std.proofs.Common.{refl, sym, ap, ◌∙◌, subst, arith, inl, inr}
use Rattle.std.proofs.lemmas.Bool.{cases_eq, eq-eqb, ne_eqb}
use Rattle.h2_host.specs.declared.party.Answer.{Answer}
use Rattle.h2_host.specs.declared.party.Own.{Own}
use Rattle.h2_host.specs.declared.table.Slot.{Slot}
use Rattle.h2_host.specs.declared.token.Token.{Token}
use Rattle.h2_host.specs.Tokens.{IsAt, is_same_token, slot_at}
use Rattle.h2_host.proofs.Places.{one_at, one_slot}
use Rattle.h2_host.specs.Isolation.{Move, MoveOf, moves_of, IsRunAlone, RunsAlone}
use Rattle.h2_host.specs.Isolation.{KeepsOtherPlaces}
use Rattle.h2_host.specs.Isolation.{HappensAt}
use Rattle.h2_host.specs.Isolation.{nothing, moved, opened, left, noted}

-- Tokens of one place and one generation are the same.
pub one_token : (a b : Token) → a.place ≡ b.place → a.generation ≡ b.generation → a ≡ b
one_token a b place generation =
    ap (λ p. record { place = p; generation = a.generation }) place
    ∙ ap (λ g. record { place = b.place; generation = g }) generation

-- A connection at a place that is kept is there still.
kept_at : {P : Type 0} (old new : List (Slot P)) (place : ℕ) (token : Token) (party : P)
    → KeepsOtherPlaces old new place → token.place ≢ place → IsAt old token party
    → IsAt new token party
kept_at old new place token party keeps other at = record {
  slot = at.slot;
  at = keeps token.place other ∙ at.at;
  generation = at.generation;
  taken = at.taken;
}

-- What a place has before something happens, and what it has then: of no lesser generation.
pub record IsLater {P : Type 0} (slots : List (Slot P)) (place : ℕ)
    (before : Slot P) : Type 0 where
  pub slot : Slot P
  pub at : slot_at slots place ≡ Some slot
  pub later : before.generation ≤ slot.generation

-- A place that is kept.
later_kept : {P : Type 0} (old new : List (Slot P)) (place other : ℕ) (slot : Slot P)
    → KeepsOtherPlaces old new place → other ≢ place → slot_at old other ≡ Some slot
    → IsLater new other slot
later_kept old new place other slot keeps differs at =
    record { slot = slot; at = keeps other differs ∙ at; later = omega arith }

-- A place at which a connection made a step.
later_stepped : {P : Type 0} (old new : List (Slot P)) (token : Token) (a b : P) (place : ℕ)
    (slot : Slot P) → place ≡ token.place → IsAt old token a → IsAt new token b
    → slot_at old place ≡ Some slot → IsLater new place slot
later_stepped old new token a b place slot same before after at =
    let is = one_slot old place slot before.slot at (ap (slot_at old) same ∙ before.at) in
    let generation = ap (λ s. s.generation) is ∙ before.generation ∙ sym after.generation in
    record {
      slot = after.slot;
      at = ap (slot_at new) same ∙ after.at;
      later = omega (arith, generation);
    }

-- Later than what is later is later.
later_still : {P : Type 0} (next new : List (Slot P)) (place : ℕ) (slot : Slot P)
    → IsLater next place slot
    → ((between : Slot P) → slot_at next place ≡ Some between → IsLater new place between)
    → IsLater new place slot
later_still next new place slot first rest =
    let last = rest first.slot first.at in
    record {
      slot = last.slot;
      at = last.at;
      later = omega (arith, first.later, last.later);
    }

-- Whatever happens, no place gets a lesser generation.
rises : {P : Type 0} (steps : P → Own → List ℕ → Answer → P → Type 0) (new old : List (Slot P))
    (moves : List MoveOf) → HappensAt steps new old moves → (place : ℕ) (slot : Slot P)
    → slot_at old place ≡ Some slot → IsLater new place slot
rises steps new old moves nothing place slot at =
    record { slot = slot; at = at; later = omega arith }
rises steps new old moves (moved before next others token move one rest) place slot at =
    later_still next new place slot
    (elim (cases_eq place token.place) [
      | inl same ↦ later_stepped old next token one.before one.after place slot same one.at one.is
          at
      | inr differs ↦ later_kept old next token.place place slot one.others differs at
    ])
    (λ between is. rises steps new next others rest place between is)
rises steps new old moves (opened before next others token party one rest) place slot at =
    later_still next new place slot
    (elim (cases_eq place token.place) [
      | inl same ↦
          let generation = one.generation slot (ap (slot_at old) (sym same) ∙ at)
          ∙ sym one.is.generation in
          record {
            slot = one.is.slot;
            at = ap (slot_at next) same ∙ one.is.at;
            later = omega (arith, generation);
          }
      | inr differs ↦ later_kept old next token.place place slot one.others differs at
    ])
    (λ between is. rises steps new next others rest place between is)
rises steps new old moves (left before next others token one rest) place slot at =
    later_still next new place slot
    (elim (cases_eq place token.place) [
      | inl same ↦
          let is = one_slot old place slot one.at.slot at (ap (slot_at old) same ∙ one.at.at) in
          let generation = ap (λ s. s.generation) is ∙ one.at.generation in
          record {
            slot = one.slot;
            at = ap (slot_at next) same ∙ one.is;
            later = omega (arith, generation, one.older);
          }
      | inr differs ↦ later_kept old next token.place place slot one.others differs at
    ])
    (λ between is. rises steps new next others rest place between is)
rises steps new old moves (noted before next others same rest) place slot at =
    let there = same place slot at in
    later_still next new place slot
    (record { slot = there.0; at = there.1; later = omega (arith, there.2) })
    (λ between is. rises steps new next others rest place between is)

-- A connection that is at a place, where another of the same place is: it is the same token.
same_token : {P : Type 0} (slots : List (Slot P)) (a b : Token) (one other : P)
    → a.place ≡ b.place → IsAt slots a one → IsAt slots b other → a ≡ b
same_token slots a b one other same x y =
    let is = one_slot slots a.place x.slot y.slot x.at (ap (slot_at slots) same ∙ y.at) in
    one_token a b same (sym x.generation ∙ ap (λ s. s.generation) is ∙ y.generation)

-- A token is itself.
is_itself : (token : Token) → is_same_token token token ≡ true
is_itself token =
    ap (λ b. b && (token.generation == token.generation)) (eq-eqb token.place token.place refl)
    ∙ eq-eqb token.generation token.generation refl

-- Tokens of two places are two.
is_other : (a b : Token) → (b.place ≡ a.place → ⊥) → is_same_token a b ≡ false
is_other a b differs =
    ap (λ it. it && (a.generation == b.generation))
    (ne_eqb a.place b.place (λ same. differs (sym same)))

-- The moves of a token, after one of it.
moves_with : (token : Token) (move : Move) (moves : List MoveOf)
    → moves_of token (record { token = token; move = move } ∷ moves) ≡ move ∷ moves_of token moves
unfolding moves_of
moves_with token move moves =
    ap (λ b. if b then move ∷ moves_of token moves else moves_of token moves) (is_itself token)

-- The moves of a token, after one of another place.
moves_without : (token other : Token) (move : Move) (moves : List MoveOf)
    → (token.place ≡ other.place → ⊥)
    → moves_of token (record { token = other; move = move } ∷ moves) ≡ moves_of token moves
unfolding moves_of
moves_without token other move moves differs =
    ap (λ b. if b then move ∷ moves_of token moves else moves_of token moves)
    (is_other other token differs)

-- A run of a connection that begins with a step.
run_with : {P : Type 0} (steps : P → Own → List ℕ → Answer → P → Type 0) (old next new : P)
    (move : Move) (moves : List Move) → steps old move.own move.octets move.answer next
    → IsRunAlone steps next moves new → IsRunAlone steps old (move ∷ moves) new
unfolding IsRunAlone
run_with steps old next new move moves step rest = (next, step, rest)

-- Nothing happens to a connection that makes no move.
run_of_none : {P : Type 0} (steps : P → Own → List ℕ → Answer → P → Type 0) (old new : P)
    → new ≡ old → IsRunAlone steps old [] new
unfolding IsRunAlone
run_of_none steps old new same = same

no_moves : (token : Token) → moves_of token [] ≡ []
unfolding moves_of
no_moves token = refl

-- Each connection that was there and is there still is what its own moves make of it, alone.
pub runs_alone : {P : Type 0} (steps : P → Own → List ℕ → Answer → P → Type 0)
    (new old : List (Slot P)) (moves : List MoveOf) → HappensAt steps new old moves
    → RunsAlone steps old new moves
runs_alone steps new old moves nothing token before after at is =
    subst (λ m. IsRunAlone steps before m after) (sym (no_moves token))
    (run_of_none steps before after (one_at new token after before is at))
runs_alone steps new old moves (moved start next others token move one rest) wanted before after at
    is =
    elim (cases_eq wanted.place token.place) [
      | inl same ↦
          let same_tokens = same_token old wanted token before one.before same at one.at in
          let first = subst (λ t. IsAt old t before) same_tokens at in
          let step = subst (λ p. steps p move.own move.octets move.answer one.after)
          (one_at old token one.before before one.at first) one.so in
          let last = subst (λ t. IsAt new t after) same_tokens is in
          let run = runs_alone steps new next others rest token one.after after one.is last in
          subst (λ t. IsRunAlone steps before
          (moves_of t (record { token = token; move = move } ∷ others)) after)
          (sym same_tokens)
          (subst (λ m. IsRunAlone steps before m after) (sym (moves_with token move others))
          (run_with steps before one.after after move (moves_of token others) step run))
      | inr differs ↦
          subst (λ m. IsRunAlone steps before m after)
          (sym (moves_without wanted token move others differs))
          (runs_alone steps new next others rest wanted before after
          (kept_at old next token.place wanted before one.others differs at) is)
    ]
runs_alone steps new old moves (opened start next others token party one rest) wanted before after
    at is =
    elim (cases_eq wanted.place token.place) [
      | inl same ↦ absurd (one.free before wanted.generation (record {
        slot = at.slot;
        at = ap (slot_at old) (sym same) ∙ at.at;
        generation = at.generation;
        taken = at.taken;
      }))
      | inr differs ↦ runs_alone steps new next others rest wanted before after
          (kept_at old next token.place wanted before one.others differs at) is
    ]
runs_alone steps new old moves (left start next others token one rest) wanted before after at is =
    elim (cases_eq wanted.place token.place) [
      | inl same ↦
          let there = rises steps new next others rest token.place one.slot one.is in
          let here = one_slot new token.place there.slot is.slot there.at
          (ap (slot_at new) (sym same) ∙ is.at) in
          let same_tokens = same_token old wanted token before one.party same at one.at in
          let generation = ap (λ s. s.generation) here ∙ is.generation
          ∙ ap (λ (t : Token). t.generation) same_tokens in
          absurd (omega (arith, generation, there.later, one.older))
      | inr differs ↦ runs_alone steps new next others rest wanted before after
          (kept_at old next token.place wanted before one.others differs at) is
    ]
runs_alone steps new old moves (noted start next others same rest) wanted before after at is =
    let there = same wanted.place at.slot at.at in
    runs_alone steps new next others rest wanted before after
    (record {
      slot = there.0;
      at = there.1;
      generation = there.2 ∙ at.generation;
      taken = there.3 ∙ at.taken;
    }) is
