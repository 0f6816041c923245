-- Where what was accepted for a stream is kept, and what is shown of it with a part more.
use Rattle.h2_joined.proofs.Names
use Names.{◌≡◌, ◌≢◌, ◌-◌, ◌<◌, ◌≤◌, ℕ, Bool, List, [], ◌∷◌, ◌++◌, length, take}
use Names.{drop}
use Names.{reverse, Some, None, refl, sym, ap, ap₂, ◌∙◌, subst, arith}
use Names.{AllByRecursion, Accepted, SentMessage, Shown, accepted_shown, take-append-drop}
use Names.{reverse-append, map-append, append_assoc, length-append}
use Names.{Result, Ok, Err, true, if◌then◌else◌}
use Rattle.std.specs.Prelude.{IsOk}
use Rattle.std.specs.Result.{OnOk, is_ok}
use Rattle.std.proofs.Common.{map as each, get_or, set}
use Rattle.std.proofs.lemmas.Bool.{eq-eqb, ne_eqb}
use Rattle.std.proofs.lemmas.List.{drop_more, get_or_at, set_at, length-take-le}
use Rattle.h2_laws_pair.proofs.Lists.{all_both}
use Rattle.h2_joined.specs.Parts.{IsLastAt, last_for, shown_of, grown}

-- Nothing of these was accepted for the stream.
abbrev pub NoneFor : ℕ → List Accepted → Type 0
NoneFor id accepted = AllByRecursion (λ one. one.id ≢ id) accepted

module _ (items : List Accepted) (id place : ℕ) (got : Accepted) (some : 0 < place)
    (within : place ≤ length items) (is : got ≡ get_or items (place - 1) got) where
  -- What stands before a place, with what comes from it on.
  next_drop : drop (place - 1) items ≡ got ∷ drop place items
  next_drop =
      drop_more items (place - 1) got (omega (arith, some, within))
      ∙ ap₂ (λ (one : Accepted) (n : ℕ). one ∷ drop n items) (sym is) (omega (arith, some))

  -- It is the last of the stream,
  pub found_last : got.id ≡ id → NoneFor id (drop place items) → IsLastAt items id (place - 1)
  found_last of none = record {
    before = take (place - 1) items;
    one = got;
    later = drop place items;
    is = sym (take-append-drop (place - 1) items)
        ∙ ap (λ (rest : List Accepted). take (place - 1) items ++ rest) next_drop;
    at = length-take-le (place - 1) items (omega (arith, within));
    of = of;
    others = none;
  }

  -- or of another one.
  pub found_other : (got.id ≡ id → ⊥) → NoneFor id (drop place items)
      → NoneFor id (drop (place - 1) items)
  found_other other none = subst (NoneFor id) (sym next_drop) (other, none)

-- Where none was accepted for a stream there is no last one,
pub none_last : (id : ℕ) (items : List Accepted) → NoneFor id items → last_for id items ≡ None
unfolding last_for
none_last id [] none = refl
none_last id (one ∷ items) none =
    rw (none_last id items none.1, ne_eqb one.id id none.0) refl

-- and else it is the one before those of other streams.
last_split : (id : ℕ) (before : List Accepted) (one : Accepted) (later : List Accepted)
    → one.id ≡ id → NoneFor id later → last_for id (before ++ one ∷ later) ≡ Some one
unfolding last_for
last_split id [] one later of none =
    rw (none_last id later none, eq-eqb one.id id of) refl
last_split id (first ∷ before) one later of none =
    rw (last_split id before one later of none) refl

-- What is shown of it comes after what is shown of later ones.
shown_split : (before : List Accepted) (one : Accepted) (later : List Accepted)
    → shown_of (before ++ one ∷ later)
    ≡ shown_of later ++ accepted_shown one ∷ shown_of before
shown_split before one later =
    ap reverse (map-append accepted_shown before (one ∷ later))
    ∙ reverse-append (each accepted_shown before) (accepted_shown one ∷ each accepted_shown later)
    ∙ ap (λ (line : List Shown). line ++ shown_of before)
    (reverse-append (accepted_shown one ∷ []) (each accepted_shown later))
    ∙ append_assoc (shown_of later) (accepted_shown one ∷ []) (shown_of before)

-- None of this is shown of the stream.
abbrev ShowsNone : ℕ → List Shown → Type 0
ShowsNone id shown = AllByRecursion (λ one. one.0 ≢ id) shown

shows_none : (id : ℕ) (items : List Accepted) → NoneFor id items → ShowsNone id (shown_of items)
shows_none id [] none = tt
shows_none id (one ∷ items) none =
    subst (ShowsNone id) (sym (shown_split [] one items))
    (all_both (λ other. other.0 ≢ id) (shown_of items) (accepted_shown one ∷ [])
    (shows_none id items none.1) (none.0, tt))

module _ (id : ℕ) (grow : SentMessage × Bool → SentMessage × Bool) where
  -- So nothing grows there,
  grown_none : (shown : List Shown) → ShowsNone id shown → grown id grow shown ≡ shown
  unfolding grown
  grown_none [] none = refl
  grown_none ((i, one) ∷ shown) none =
      rw (ne_eqb i id none.0) (ap (λ (others : List Shown). (i, one) ∷ others)
      (grown_none shown none.1))

  pub none_grows : (items : List Accepted) → NoneFor id items
      → grown id grow (shown_of items) ≡ shown_of items
  none_grows items none = grown_none (shown_of items) (shows_none id items none)

  -- and what comes after it does.
  grown_past : (later : List Shown) (i : ℕ) (one : SentMessage × Bool) (before : List Shown)
      → i ≡ id → ShowsNone id later
      → grown id grow (later ++ (i, one) ∷ before) ≡ later ++ (i, grow one) ∷ before
  unfolding grown
  grown_past [] i one before of none = rw (eq-eqb i id of) refl
  grown_past ((j, other) ∷ later) i one before of none =
      rw (ne_eqb j id none.0) (ap (λ (others : List Shown). (j, other) ∷ others)
      (grown_past later i one before of none.1))

module _ (items : List Accepted) (id place : ℕ) (got new : Accepted)
    (last : IsLastAt items id place) (is : got ≡ get_or items place got) where
  -- What is got there is the last one.
  got_last : got ≡ last.one
  got_last =
      is ∙ ap (λ (list : List Accepted). get_or list place got) last.is
      ∙ get_or_at last.before last.one last.later got place last.at

  pub last_is : last_for id items ≡ Some got
  last_is =
      ap (last_for id) last.is ∙ last_split id last.before last.one last.later last.of last.others
      ∙ ap Some (sym got_last)

  set_last : set items place new ≡ last.before ++ new ∷ last.later
  set_last =
      ap (λ (list : List Accepted). set list place new) last.is
      ∙ set_at last.before last.one last.later new place last.at

  -- With another one in its place of the same stream that is the last one,
  pub last_then : new.id ≡ got.id → last_for id (set items place new) ≡ Some new
  last_then of =
      ap (last_for id) set_last
      ∙ last_split id last.before new last.later
      (of ∙ ap (λ (a : Accepted). a.id) got_last ∙ last.of) last.others

  -- and is shown: the same,
  pub shows_same : accepted_shown new ≡ accepted_shown got
      → shown_of (set items place new) ≡ shown_of items
  shows_same same =
      ap shown_of set_last ∙ shown_split last.before new last.later
      ∙ ap (λ (shown : Shown). shown_of last.later ++ shown ∷ shown_of last.before)
      (same ∙ ap accepted_shown got_last)
      ∙ sym (shown_split last.before last.one last.later) ∙ ap shown_of (sym last.is)

  -- or more.
  pub shows_more : (grow : SentMessage × Bool → SentMessage × Bool)
      → accepted_shown new ≡ (got.id, grow (accepted_shown got).1)
      → shown_of (set items place new) ≡ grown id grow (shown_of items)
  shows_more grow more =
      let shown = accepted_shown last.one in
      ap shown_of set_last ∙ shown_split last.before new last.later
      ∙ ap (λ (one : Shown). shown_of last.later ++ one ∷ shown_of last.before)
      (more ∙ ap (λ (a : Accepted). (a.id, grow (accepted_shown a).1)) got_last)
      ∙ sym (grown_past id grow (shown_of last.later) last.one.id shown.1 (shown_of last.before)
      last.of (shows_none id last.later last.others))
      ∙ ap (grown id grow) (sym (shown_split last.before last.one last.later)
      ∙ ap shown_of (sym last.is))

-- Octets for which there was room were kept.
pub octets_kept : {E : Type 0} (result : Result (Unit {0}) E) (old new octets : List ℕ)
    → IsOk result → new ≡ (if is_ok result then old ++ octets else old) → new ≡ old ++ octets
octets_kept (Ok done) old new octets ok is = is
octets_kept (Err error) old new octets ok is = cc

-- What holds where something was done holds once it was.
pub holds_done : {E : Type 0} (P : Type 0) (result : Result (Unit {0}) E) → is_ok result ≡ true
    → OnOk result P → P
holds_done P (Ok done) ok holds = holds
holds_done P (Err error) ok holds = cc

-- The place is one of what is kept.
pub last_within : (items : List Accepted) (id place : ℕ) → IsLastAt items id place
    → place < length items
last_within items id place last =
    let all = ap length last.is ∙ length-append last.before (last.one ∷ last.later) in
    let at = last.at in
    omega (arith, all, at)
