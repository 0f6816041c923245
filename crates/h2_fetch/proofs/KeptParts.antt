-- What is kept of streams once more was kept or one was taken.
use Rattle.std.proofs.Common.{◌≡◌, ◌≢◌, ℕ, ◌==◌, ◌++◌, ◌∷◌, List, [], Some, refl, sym, ap, ◌∙◌}
use Rattle.std.proofs.Common.{append-nil, append_assoc, inl, inr, if◌then◌else◌}
use Rattle.std.proofs.lemmas.Bool.{cases_eq, eq-eqb, ne_eqb}
use Rattle.std.proofs.lemmas.List.Elements.{Contains-append_cases, Contains-append_right}
use Rattle.std.specs.List.{Contains}
use Rattle.std.specs.Prelude.{◌⊎◌}
use Rattle.h2_laws_pair.proofs.FaultsInvariant.{first_in}
use Rattle.h2_laws_pair.proofs.Lists.{none_in, one_in}
use Rattle.h2_fetch.specs.Kept.{KeepsAll, KeepsAlso, TakesKept}
use Rattle.h2_fetch.specs.Several.{AnsweredOn, DropOn, OnStream, answered_next, came_as, kept_on}
use Rattle.h2_fetch.specs.declared.connection.Came.{Came}
use Rattle.h2_fetch.specs.declared.connection.Came.TheVariants.{Dropped, Part}
use Rattle.h2_fetch.specs.declared.kept.Queue.{Queue}

-- what is kept of each stream
abbrev pub Queues : Type 0
Queues = List (ℕ × Queue)

-- what has come on a stream of its own, or nothing on another
abbrev pub came_on : ℕ → Came → ℕ → List OnStream
came_on id came i = if id == i then came_as id came ∷ [] else []

-- What has come on a stream is nothing of another.
came_elsewhere : (i id : ℕ) (came : Came) → i ≢ id → came_on id came i ≡ []
came_elsewhere i id came other = rw (ne_eqb id i (λ same. other (sym same))) refl

-- The first that was kept of a stream is all that has gone of any,
one_taken : (i id : ℕ) (came : Came) (old new : Queues) → TakesKept id old new (Some came)
    → kept_on i old ≡ came_on id came i ++ kept_on i new
unfolding TakesKept
one_taken i id came old new takes = elim (cases_eq i id) [
  | inl here ↦ rw (here, eq-eqb id id refl) takes.0
  | inr other ↦ rw (came_elsewhere i id came other) (sym (takes.1 i other))
]

-- and the last that is kept of one is all that was added.
one_kept : (i id : ℕ) (came : Came) (old new : Queues) → KeepsAlso id came old new
    → kept_on i new ≡ kept_on i old ++ came_on id came i
one_kept i id came old new also = elim (cases_eq i id) [
  | inl here ↦ rw (here, eq-eqb id id refl) also.last
  | inr other ↦
      also.others i other ∙ sym (append-nil (kept_on i old))
      ∙ ap (λ (more : List OnStream). kept_on i old ++ more)
      (sym (came_elsewhere i id came other))
]

pub none_more : (id stream : ℕ) (came : Came) (old new : Queues) → stream ≢ id
    → KeepsAlso stream came old new → kept_on id old ≡ [] → kept_on id new ≡ []
none_more id stream came old new other also none =
    also.others id (λ same. other (sym same)) ∙ none

-- Of two lists of which one is empty, either may come first.
either_first : (one two three : List OnStream) → (two ≡ []) ⊎ (three ≡ [])
    → (one ++ two) ++ three ≡ (one ++ three) ++ two
either_first one two three (inl none) =
    rw none (ap (λ (all : List OnStream). all ++ three) (append-nil one)
    ∙ sym (append-nil (one ++ three)))
either_first one two three (inr none) =
    rw none (append-nil (one ++ two) ∙ ap (λ (all : List OnStream). all ++ two)
    (sym (append-nil one)))

none_or_elsewhere : (i id : ℕ) (came : Came) (kept : Queues) → kept_on id kept ≡ []
    → (kept_on i kept ≡ []) ⊎ (came_on id came i ≡ [])
none_or_elsewhere i id came kept none = elim (cases_eq i id) [
  | inl here ↦ inl (rw here none)
  | inr other ↦ inr (came_elsewhere i id came other)
]

-- What has come on a stream of which nothing is kept is answered,
pub parts_answered : (answered : AnsweredOn) (id : ℕ) (came : Came) (kept : Queues)
    (i : ℕ) {before after : List OnStream} → kept_on id kept ≡ []
    → before ≡ answered i ++ kept_on i kept → after ≡ before ++ came_on id came i
    → after ≡ answered_next answered id came i ++ kept_on i kept
parts_answered answered id came kept i none was now =
    now ∙ ap (λ (all : List OnStream). all ++ came_on id came i) was
    ∙ either_first (answered i) (kept_on i kept) (came_on id came i)
    (none_or_elsewhere i id came kept none)

-- what has come on another is kept,
pub parts_kept : (answered : AnsweredOn) (id : ℕ) (came : Came) (old new : Queues)
    (i : ℕ) {before after : List OnStream} → KeepsAlso id came old new
    → before ≡ answered i ++ kept_on i old → after ≡ before ++ came_on id came i
    → after ≡ answered i ++ kept_on i new
parts_kept answered id came old new i also was now =
    now ∙ ap (λ (all : List OnStream). all ++ came_on id came i) was
    ∙ append_assoc (answered i) (kept_on i old) (came_on id came i)
    ∙ ap (λ (all : List OnStream). answered i ++ all) (sym (one_kept i id came old new also))

-- or lost where there is no memory for that;
pub parts_lost : (answered : AnsweredOn) (id : ℕ) (came : Came) (old new : Queues)
    (i : ℕ) {before after : List OnStream} → KeepsAll old new
    → before ≡ answered i ++ kept_on i old → after ≡ before ++ came_on id came i
    → after ≡ answered i ++ (kept_on i new ++ came_on id came i)
parts_lost answered id came old new i all was now =
    now ∙ ap (λ (all : List OnStream). all ++ came_on id came i) was
    ∙ append_assoc (answered i) (kept_on i old) (came_on id came i)
    ∙ ap (λ (kept : List OnStream). answered i ++ (kept ++ came_on id came i)) (sym (all i))

-- and the first that is kept of a stream is answered.
pub parts_taken : (answered : AnsweredOn) (id : ℕ) (came : Came) (old new : Queues)
    (i : ℕ) {handed : List OnStream} → TakesKept id old new (Some came)
    → handed ≡ answered i ++ kept_on i old
    → handed ≡ answered_next answered id came i ++ kept_on i new
parts_taken answered id came old new i takes was =
    was ∙ ap (λ (all : List OnStream). answered i ++ all) (one_taken i id came old new takes)
    ∙ sym (append_assoc (answered i) (came_on id came i) (kept_on i new))

-- What is left was kept,
pub was_kept : (i id : ℕ) (came : Came) (old new : Queues) → TakesKept id old new (Some came)
    → (one : OnStream) → Contains (kept_on i new) one → Contains (kept_on i old) one
was_kept i id came old new takes one there =
    rw (one_taken i id came old new takes)
    (Contains-append_right (came_on id came i) (kept_on i new) one there)

-- and so was the first.
pub first_was_kept : (id : ℕ) (came : Came) (old new : Queues)
    → TakesKept id old new (Some came) → Contains (kept_on id old) (came_as id came)
unfolding TakesKept
first_was_kept id came old new takes = rw takes.0 (first_in (came_as id came) (kept_on id new))

-- A stream that is kept as dropped was kept so, or has come so.
as_dropped : (id : ℕ) (came : Came) (code : ℕ) → came_as id came ≡ DropOn code
    → came ≡ Dropped code
as_dropped id (Part part) code is = absurd (cc)
as_dropped id (Dropped number) code is = let same : number ≡ code = cc in ap Dropped same

came_as_dropped : (i id : ℕ) (came : Came) (code : ℕ)
    → Contains (came_on id came i) (DropOn code) → (id ≡ i) × (came ≡ Dropped code)
came_as_dropped i id came code there = elim (cases_eq i id) [
  | inl here ↦
      let one : Contains (came_as id came ∷ []) (DropOn code) =
      rw (here, eq-eqb id id refl) at there in
      (sym here, as_dropped id came code (one_in (came_as id came) (DropOn code) one))
  | inr other ↦ absurd (none_in (DropOn code) (rw (came_elsewhere i id came other) at there))
]

pub dropped_cases : (i id : ℕ) (came : Came) (old new : Queues) → KeepsAlso id came old new
    → (code : ℕ) → Contains (kept_on i new) (DropOn code)
    → Contains (kept_on i old) (DropOn code) ⊎ ((id ≡ i) × (came ≡ Dropped code))
dropped_cases i id came old new also code there =
    elim (Contains-append_cases (kept_on i old) (came_on id came i) (DropOn code)
    (rw (one_kept i id came old new also) at there)) [
      | inl was ↦ inl was
      | inr last ↦ inr (came_as_dropped i id came code last)
    ]
