-- What is kept of streams once the first of a queue was taken.
use Rattle.std.proofs.Common.{◌≡◌, ℕ, Bool, ◌++◌, ◌∷◌, List, [], Option, Some, None, refl, sym, ap}
use Rattle.std.proofs.Common.{◌∙◌, cond, inl, inr, map, arith}
use Rattle.std.proofs.lemmas.Bool.{cases_eq, eq-eqb, ne_eqb}
use Rattle.std.proofs.lemmas.List.{nil_from_length}
use Rattle.std.specs.Option.{is_some, option_to_list}
use Rattle.h2_numbers.specs.Entries.{NumberEntries, SetsValue, value_at}
use Rattle.h2_numbers.specs.Lends.{WritesThrough}
use Rattle.h2_fetch.specs.Kept.{KeepsAll, KeepsElsewhere, TakesKept}
use Rattle.h2_fetch.specs.Several.{OnStream, came_as, came_in, kept_on}
use Rattle.h2_fetch.specs.declared.connection.Came.{Came}
use Rattle.h2_fetch.specs.declared.kept.Queue.{Queue}
use Rattle.h2_fetch.proofs.KeptParts.{Queues}

module _ (id : ℕ) (old new : Queues) (value : Option Queue)
    (sets : SetsValue id value old new) where
  -- What was set at a stream is kept there, and of each other one what was.
  pub set_there : kept_on id new ≡ came_in id value
  set_there =
      ap (came_in id) (sets id
      ∙ ap (λ (b : Bool). cond b value (value_at id old)) (eq-eqb id id refl))

  pub set_elsewhere : KeepsElsewhere id old new
  set_elsewhere i other =
      ap (came_in i) (sets i
      ∙ ap (λ (b : Bool). cond b value (value_at i old)) (ne_eqb id i (λ same. other (sym same))))

-- A queue of which nothing is kept may be removed.
pub empty_removed : (id : ℕ) (old new : Queues) → kept_on id old ≡ [] → SetsValue id None old new
    → KeepsAll old new
empty_removed id old new none sets i = elim (cases_eq i id) [
  | inl here ↦ rw (here, none) (set_there id old new None sets)
  | inr other ↦ set_elsewhere id old new None sets i other
]

-- What was taken is taken where the rest is kept.
pub taken_then : (id : ℕ) (came : Came) (old middle new : Queues)
    → TakesKept id old middle (Some came) → KeepsAll middle new → TakesKept id old new (Some came)
unfolding TakesKept
taken_then id came old middle new takes keeps = (
  takes.0 ∙ ap (λ (rest : List OnStream). came_as id came ∷ rest) (sym (keeps id)),
  λ i other. keeps i ∙ takes.1 i other,
)

-- Where a stream has no queue, nothing is taken.
pub none_taken : (id : ℕ) (old new : NumberEntries Queue) → None ≡ value_at id old.entries
    → new ≡ old → TakesKept id old.entries new.entries None
unfolding TakesKept
none_taken id old new none same = (
  ap (came_in id) (sym none),
  λ i. ap (λ (map : NumberEntries Queue). kept_on i map.entries) same,
)

-- Nothing is in a queue without parts.
no_parts : (queue : Queue) → queue.parts.len ≡ 0 → queue.parts.items ≡ []
no_parts queue none = nil_from_length queue.parts.items (omega (arith, queue.parts.ok.0))

-- The first of the queue that was found is taken, unless it has no parts.
module _ (id : ℕ) (old new : NumberEntries Queue) (was now : Queue)
    (found : Some was ≡ value_at id old.entries) (writes : WritesThrough id old now new) where
  was_there : kept_on id old.entries ≡ map (came_as id) was.parts.items
  was_there = ap (came_in id) (sym found)

  written : SetsValue id (Some now) old.entries new.entries
  written = writes.changes (ap is_some (sym found))

  now_there : kept_on id new.entries ≡ map (came_as id) now.parts.items
  now_there = set_there id old.entries new.entries (Some now) written

  same_left : now.parts.items ≡ was.parts.items → KeepsAll old.entries new.entries
  same_left items i = elim (cases_eq i id) [
    | inl here ↦ rw here (now_there ∙ ap (map (came_as id)) items ∙ sym was_there)
    | inr other ↦ set_elsewhere id old.entries new.entries (Some now) written i other
  ]

  pub first_taken : (result : Option Came)
      → was.parts.items ≡ option_to_list result ++ now.parts.items
      → (result ≡ None → was.parts.len ≡ 0) → TakesKept id old.entries new.entries result
  unfolding TakesKept
  first_taken None items empty =
      (was_there ∙ ap (map (came_as id)) (no_parts was (empty refl)), same_left (sym items))
  first_taken (Some came) items empty = (
    was_there ∙ ap (map (came_as id)) items
        ∙ ap (λ (rest : List OnStream). came_as id came ∷ rest) (sym now_there),
    set_elsewhere id old.entries new.entries (Some now) written,
  )
