-- What becomes of the table of streams where one is opened, changed, closed or reset, and where
-- windows are shifted.
use Rattle.h2_streams.proofs.Names.{◌≡◌, ℕ, Bool, true, false, cond, List, [], Option, Some, None}
use Rattle.h2_streams.proofs.Names.{IsSome, IfSome, nat_eq, refl, sym, ap, ◌∙◌, both_ways, nat_cmp}
use Rattle.h2_streams.proofs.Names.{nat_cmp_total, unsigned_tied, nat_eq_equiv, active_entry}
use Rattle.h2_streams.proofs.Names.{reset_entry, StreamMap, stream_in, view_of_kept, active_map}
use Rattle.h2_streams.proofs.Names.{with_resets, active_at, is_reset, IsKeptWell, IsNearKept, Kept}
use Rattle.h2_streams.proofs.Names.{◌∷◌}
use Rattle.std.proofs.Common.{eqb-true}
use Rattle.std.specs.List.{list_any}
use Rattle.std.specs.Ordering.{is_eq}
use Rattle.h2_spec_log.specs.View.{StreamView}
use Rattle.h2_streams.specs.Table.{TableState}
use Rattle.h2_streams.proofs.KeptEntries.{entry_at, get_kept, same_streams}
use Rattle.std.specs.FinMap as map

-- the streams of a table
abbrev pub streams : (send recv : ℕ) → List (ℕ × Kept) → List ℕ → StreamMap
streams send recv entries numbers = with_resets (active_map send recv entries) numbers

-- other entries, with another one at a number
abbrev pub ChangesAt : ℕ → Option Kept → List (ℕ × Kept) → List (ℕ × Kept) → Type 0
ChangesAt id kept old new = (q : ℕ)
    → active_at q new ≡ cond (nat_eq id q) kept (active_at q old)

-- A number of which nothing is kept wasn't reset.
absent_by : (send recv : ℕ) (b : Bool) (kept : Option Kept) → entry_at send recv b kept ≡ None
    → (b ≡ false) × (kept ≡ None)
absent_by send recv true kept none = absurd (cc)
absent_by send recv false None none = (refl, refl)
absent_by send recv false (Some kept) none = absurd (cc)

-- A number of which nothing is kept is neither active nor reset.
pub absent : (send recv id : ℕ) (entries : List (ℕ × Kept)) (numbers : List ℕ)
    → map.get (streams send recv entries numbers) id ≡ None
    → (is_reset id numbers ≡ false) × (active_at id entries ≡ None)
absent send recv id entries numbers none =
    absent_by send recv (is_reset id numbers) (active_at id entries)
    (sym (get_kept send recv id entries numbers) ∙ none)

-- An active stream wasn't reset.
active_by : (send recv : ℕ) (b : Bool) (kept : Option Kept)
    → IsSome (stream_in (entry_at send recv b kept)) → (b ≡ false) × IsSome kept
active_by send recv true kept some = absurd (both_ways false refl some)
active_by send recv false None some = absurd (both_ways false refl some)
active_by send recv false (Some kept) some = (refl, refl)

-- An active stream is among the entries, and wasn't reset.
pub active : (send recv id : ℕ) (entries : List (ℕ × Kept)) (numbers : List ℕ)
    → IsSome (stream_in (map.get (streams send recv entries numbers) id))
    → (is_reset id numbers ≡ false) × IsSome (active_at id entries)
active send recv id entries numbers some =
    active_by send recv (is_reset id numbers) (active_at id entries)
    (rw (get_kept send recv id entries numbers) at some)

-- The map's test of two numbers, with its numbers in turn.
turned : (id q : ℕ) → is_eq (nat_cmp q id) ≡ nat_eq id q
turned id q = unsigned_tied q id ∙ nat_eq_equiv.symm q id

-- Entries with another one at a number that wasn't reset, by whether a number is that one.
set_by : (send recv id q : ℕ) (b c : Bool) (kept : Kept) (old : Option Kept)
    → (b ≡ true → c ≡ false)
    → entry_at send recv c (cond b (Some kept) old)
    ≡ cond b (Some (active_entry (view_of_kept send recv kept))) (entry_at send recv c old)
set_by send recv id q true true kept old apart = absurd (both_ways true (apart refl) refl)
set_by send recv id q true false kept old apart = refl
set_by send recv id q false c kept old apart = refl

-- A number that is another's, by the test, was reset where that was.
same_reset : (id q : ℕ) (numbers : List ℕ) → is_reset id numbers ≡ false
    → nat_eq id q ≡ true → is_reset q numbers ≡ false
same_reset id q numbers apart same =
    ap (λ (i : ℕ). is_reset i numbers) (sym (eqb-true id q same)) ∙ apart

module _ (send recv : ℕ) where
  -- Where a stream is opened, or changed, its entry is set.
  pub streams_set : (id : ℕ) (kept : Kept) (stream : StreamView) (old new : List (ℕ × Kept))
      (numbers : List ℕ) → ChangesAt id (Some kept) old new → is_reset id numbers ≡ false
      → view_of_kept send recv kept ≡ stream
      → streams send recv new numbers ≡ map.insert (streams send recv old numbers) id
      (active_entry stream)
  streams_set id kept stream old new numbers changes apart view =
      same_streams (streams send recv new numbers)
      (map.insert (streams send recv old numbers) id (active_entry stream))
      (λ q. get_kept send recv q new numbers
      ∙ ap (entry_at send recv (is_reset q numbers)) (changes q) ∙ set_by send recv id q
      (nat_eq id q) (is_reset q numbers) kept (active_at q old) (same_reset id q numbers apart)
      ∙ ap (λ (s : StreamView). cond (nat_eq id q) (Some (active_entry s)) (entry_at send
      recv (is_reset q numbers) (active_at q old))) view
      ∙ sym (map.get-insert nat_cmp_total (streams send recv old numbers) id (active_entry stream) q
      ∙ ap (λ (b : Bool). cond b (Some (active_entry stream))
      (map.get (streams send recv old numbers) q)) (turned id q)
      ∙ ap (cond (nat_eq id q) (Some (active_entry stream))) (get_kept send recv q old numbers)))

  -- Entries without one at a number that wasn't reset, by whether a number is that one.
  closed_by : (b c : Bool) (old : Option Kept) → (b ≡ true → c ≡ false)
      → entry_at send recv c (cond b None old) ≡ cond b None (entry_at send recv c old)
  closed_by true true old apart = absurd (both_ways true (apart refl) refl)
  closed_by true false old apart = refl
  closed_by false c old apart = refl

  -- Where a stream is closed, its entry is removed.
  pub streams_closed : (id : ℕ) (old new : List (ℕ × Kept)) (numbers : List ℕ)
      → ChangesAt id None old new → is_reset id numbers ≡ false
      → streams send recv new numbers ≡ map.remove (streams send recv old numbers) id
  streams_closed id old new numbers changes apart =
      same_streams (streams send recv new numbers) (map.remove (streams send recv old numbers) id)
      (λ q. get_kept send recv q new numbers
      ∙ ap (entry_at send recv (is_reset q numbers)) (changes q) ∙ closed_by (nat_eq id q)
      (is_reset q numbers) (active_at q old) (same_reset id q numbers apart)
      ∙ sym (map.get-remove nat_cmp_total (streams send recv old numbers) id q
      ∙ ap (λ (b : Bool). cond b None (map.get (streams send recv old numbers) q)) (turned id q)
      ∙ ap (cond (nat_eq id q) None) (get_kept send recv q old numbers)))

  -- Entries without one at a number that is reset, by whether a number is that one.
  reset_by : (b c : Bool) (old : Option Kept)
      → entry_at send recv (cond b true c) (cond b None old) ≡ cond b (Some reset_entry)
      (entry_at send recv c old)
  reset_by true c old = refl
  reset_by false c old = refl

  -- Where a stream is reset, that is kept of its number.
  pub streams_reset : (id : ℕ) (old new : List (ℕ × Kept)) (numbers more : List ℕ)
      → ChangesAt id None old new
      → ((q : ℕ) → is_reset q more ≡ cond (nat_eq id q) true (is_reset q numbers))
      → streams send recv new more ≡ map.insert (streams send recv old numbers) id reset_entry
  streams_reset id old new numbers more changes resets = same_streams (streams send recv new more)
      (map.insert (streams send recv old numbers) id reset_entry)
      (λ q. get_kept send recv q new more
      ∙ ap (λ (b : Bool). entry_at send recv b (active_at q new)) (resets q)
      ∙ ap (entry_at send recv (cond (nat_eq id q) true (is_reset q numbers))) (changes q)
      ∙ reset_by (nat_eq id q) (is_reset q numbers) (active_at q old)
      ∙ sym (map.get-insert nat_cmp_total (streams send recv old numbers) id reset_entry q
      ∙ ap (λ (b : Bool). cond b (Some reset_entry) (map.get (streams send recv old numbers) q))
      (turned id q)
      ∙ ap (cond (nat_eq id q) (Some reset_entry)) (get_kept send recv q old numbers)))

-- Whether a number was reset, as the set's own test has it.
pub reset_test : (q : ℕ) (numbers : List ℕ)
    → list_any (λ number. is_eq (nat_cmp q number)) numbers ≡ is_reset q numbers
reset_test q [] = refl
reset_test q (number ∷ numbers) = rw (unsigned_tied q number, reset_test q numbers) refl

-- So it is where one more was reset.
pub resets_more : (id : ℕ) (numbers more : List ℕ)
    → ((q : ℕ) → list_any (λ number. is_eq (nat_cmp q number)) more
    ≡ cond (is_eq (nat_cmp id q)) true (list_any (λ number. is_eq (nat_cmp q number)) numbers))
    → (q : ℕ) → is_reset q more ≡ cond (nat_eq id q) true (is_reset q numbers)
resets_more id numbers more updates q =
    sym (reset_test q more) ∙ updates q
    ∙ ap (λ (b : Bool). cond b true (list_any (λ number. is_eq (nat_cmp q number)) numbers))
    (unsigned_tied id q) ∙ ap (cond (nat_eq id q) true) (reset_test q numbers)

-- Another one at a number is near, if what was kept is.
near_by : (b : Bool) (kept : Kept) (old : Option Kept) → IsNearKept kept → IfSome old IsNearKept
    → IfSome (cond b (Some kept) old) IsNearKept
near_by true kept old near all = near
near_by false kept old near all = all

-- Another one at a number is apart from those that were reset, if what was kept is.
apart_by : (b c : Bool) (kept : Kept) (old : Option Kept) → (b ≡ true → c ≡ false)
    → (IsSome old → c ≡ false) → IsSome (cond b (Some kept) old) → c ≡ false
apart_by true c kept old here all some = here refl
apart_by false c kept old here all some = all some

-- Entries are kept well where one is set.
pub well_set : (id : ℕ) (kept : Kept) (old new : List (ℕ × Kept)) (numbers : List ℕ)
    → IsKeptWell old numbers → ChangesAt id (Some kept) old new → is_reset id numbers ≡ false
    → IsNearKept kept → IsKeptWell new numbers
well_set id kept old new numbers well changes apart near =
    record {
      near = λ q. rw (changes q) (near_by (nat_eq id q) kept (active_at q old) near
          (well.near q));
      apart = λ q some. apart_by (nat_eq id q) (is_reset q numbers) kept (active_at q old)
          (same_reset id q numbers apart) (well.apart q) (rw (changes q) at some);
    }

-- What is left without a number is near, if what was kept is.
left_near : (b : Bool) (old : Option Kept) → IfSome old IsNearKept
    → IfSome (cond b None old) IsNearKept
left_near true old all = tt
left_near false old all = all

-- What is left without a number is apart from those that were reset.
left_as_it_was : (b c : Bool) (old : Option Kept) → (IsSome old → c ≡ false)
    → IsSome (cond b None old) → c ≡ false
left_as_it_was true c old all some = absurd (both_ways false refl some)
left_as_it_was false c old all some = all some

-- Entries are kept well where one is removed.
pub well_closed : (id : ℕ) (old new : List (ℕ × Kept)) (numbers : List ℕ)
    → IsKeptWell old numbers → ChangesAt id None old new → IsKeptWell new numbers
well_closed id old new numbers well changes =
    record {
      near = λ q. rw (changes q) (left_near (nat_eq id q) (active_at q old) (well.near q));
      apart = λ q some. left_as_it_was (nat_eq id q) (is_reset q numbers) (active_at q old)
          (well.apart q) (rw (changes q) at some);
    }

-- Where one is reset, it is none of the active ones.
apart_more : (b c : Bool) (old : Option Kept) → (IsSome old → c ≡ false)
    → IsSome (cond b None old) → cond b true c ≡ false
apart_more true c old all some = absurd (both_ways false refl some)
apart_more false c old all some = all some

pub well_reset : (id : ℕ) (old new : List (ℕ × Kept)) (numbers more : List ℕ)
    → IsKeptWell old numbers → ChangesAt id None old new
    → ((q : ℕ) → is_reset q more ≡ cond (nat_eq id q) true (is_reset q numbers))
    → IsKeptWell new more
well_reset id old new numbers more well changes resets =
    record {
      near = (well_closed id old new numbers well changes).near;
      apart = λ q some. resets q ∙ apart_more (nat_eq id q) (is_reset q numbers) (active_at q old)
          (well.apart q) (rw (changes q) at some);
    }

-- a table with streams
abbrev pub table_with : (send recv : ℕ) → StreamMap → TableState
table_with send recv entries = record {
  entries = entries;
  send_initial = send;
  recv_initial = recv;
}

-- a new table
pub new_streams : (send recv : ℕ) (entries : List (ℕ × Kept)) (numbers : List ℕ)
    → entries ≡ [] → numbers ≡ [] → streams send recv entries numbers ≡ map.empty
new_streams send recv entries numbers no_entries no_numbers =
    same_streams (streams send recv entries numbers) map.empty
    (λ q. get_kept send recv q entries numbers
    ∙ ap (λ (ks : List ℕ). entry_at send recv (is_reset q ks) (active_at q entries)) no_numbers
    ∙ ap (λ (es : List (ℕ × Kept)). entry_at send recv false (active_at q es)) no_entries
    ∙ sym (map.get-empty nat_cmp q))

-- What is found without a number that isn't among the active ones is what was found.
gone_by : (b : Bool) (old : Option Kept) → (b ≡ true → old ≡ None) → old ≡ cond b None old
gone_by true old none = none refl
gone_by false old none = refl

-- What isn't apart from those that were reset isn't kept.
none_kept : (c : Bool) (kept : Option Kept) → c ≡ true → (IsSome kept → c ≡ false) → kept ≡ None
none_kept c None reset apart = refl
none_kept c (Some kept) reset apart = absurd (both_ways c (apart refl) reset)

-- A number that was reset already isn't among the active ones: they stay.
pub gone_already : (id : ℕ) (entries : List (ℕ × Kept)) (numbers : List ℕ)
    → IsKeptWell entries numbers → is_reset id numbers ≡ true → ChangesAt id None entries entries
gone_already id entries numbers well reset = λ q.
    let none : active_at id entries ≡ None =
    none_kept (is_reset id numbers) (active_at id entries) reset (well.apart id) in
    gone_by (nat_eq id q) (active_at q entries)
    (λ same. ap (λ (i : ℕ). active_at i entries) (sym (eqb-true id q same))
    ∙ none)
