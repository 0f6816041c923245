-- Two slices that are cut at what is left of a turn are first octets of what waits still.
use Rattle.std.proofs.Common.{◌≡◌, ◌≤◌, ◌<◌, ◌+◌, ◌-◌, ◌++◌, ◌∙◌, ℕ, List, length, take, min}
use Rattle.std.proofs.Common.{drop, ap, sym, subst, arith, inl, inr, append-nil, true, false}
use Rattle.std.proofs.lemmas.Bool.{cases_lt}
use Rattle.std.proofs.lemmas.List.{take-append-drop, take-append-le, take_all}
use Rattle.std.proofs.lemmas.List.{length-take-le}
use Rattle.std.proofs.Math.Seq.{take-append-add}
use Rattle.std.proofs.Transfers.{starts_with_of_append, starts_with_trans}
use Rattle.std.specs.Io.{StartsWith}
use Rattle.h2_host.specs.declared.state.HostState.{HostState}
use Rattle.h2_host.specs.declared.table.Slot.{Slot}
use Rattle.h2_host.specs.declared.token.Token.{Token}
use Rattle.h2_host.specs.Readers.{LendsFirst, LendsInTurn}
use Rattle.h2_host.specs.Tokens.{IsAt}
use Rattle.h2_host.specs.Turns.{has_turn, most_given}

-- Octets start with their first ones.
starts_with_first : (all : List ℕ) (count : ℕ) → StartsWith all (take count all)
starts_with_first all count =
    starts_with_of_append all (take count all) (drop count all) (sym (take-append-drop count all))

-- Where the first slice has no less than is left, none of the second is;
within_first : (first second : List ℕ) (left a b : ℕ) → left ≤ length first → a ≡ left → b ≡ 0
    → StartsWith (first ++ second) (take a first ++ take b second)
within_first first second left a b long is none =
    let same : take a first ++ take b second ≡ take left (first ++ second) =
    rw (is, none) (append-nil (take left first) ∙ sym (take-append-le left first second long)) in
    subst (StartsWith (first ++ second)) (sym same) (starts_with_first (first ++ second) left)

-- otherwise all of the first is, and first octets of the second.
past_first : (first second : List ℕ) (a b : ℕ) → a ≡ length first
    → StartsWith (first ++ second) (take a first ++ take b second)
past_first first second a b is =
    let all : take a first ≡ first = rw is (take_all (length first) first (omega arith)) in
    let same : take a first ++ take b second ≡ take (length first + b) (first ++ second) =
    rw all (sym (take-append-add first second b)) in
    subst (StartsWith (first ++ second)) (sym same)
    (starts_with_first (first ++ second) (length first + b))

-- So they are in either case;
pub cut_starts : (waiting first second : List ℕ) (left a b : ℕ)
    → StartsWith waiting (first ++ second) → a ≡ min (length first) left
    → b ≡ min (length second) (left - length (take a first))
    → StartsWith waiting (take a first ++ take b second)
cut_starts waiting first second left a b starts is_a is_b =
    elim (cases_lt left (length first)) [
      | inl below ↦
          let many : a ≡ left = omega (arith, is_a, below) in
          let cut = length-take-le a first (omega (arith, many, below)) in
          starts_with_trans waiting (first ++ second) _ starts
          (within_first first second left a b (omega (arith, below)) many
          (omega (arith, is_b, cut, many)))
      | inr above ↦
          starts_with_trans waiting (first ++ second) _ starts
          (past_first first second a b (omega (arith, is_a, above)))
    ]

-- they are no more than is left,
pub cut_few : (first second : List ℕ) (left a b : ℕ) → a ≡ min (length first) left
    → b ≡ min (length second) (left - length (take a first))
    → length (take a first) + length (take b second) ≤ left
cut_few first second left a b is_a is_b =
    let one = length-take-le a first (omega (arith, is_a)) in
    let two = length-take-le b second (omega (arith, is_b)) in
    omega (arith, one, two, is_a, is_b)

-- and some where the first has some and some are left.
pub cut_some : (first : List ℕ) (left a : ℕ) → a ≡ min (length first) left → 0 < length first
    → 0 < left → 0 < length (take a first)
cut_some first left a is_a some more =
    let one = length-take-le a first (omega (arith, is_a)) in omega (arith, one, is_a, some, more)

-- A place has one connection.
same_at : {P : Type 0} (slots : List (Slot P)) (token : Token) (one other : P)
    → IsAt slots token one → IsAt slots token other → one ≡ other
same_at {P = P} slots token one other is also =
    let found = sym is.at ∙ also.at in
    let slots_same : is.slot ≡ also.slot = cc in
    let taken = sym is.taken ∙ ap {A = Slot P} (λ s. s.party) slots_same ∙ also.taken in cc

-- The connection that has the turn gives first octets of its own output.
pub lends_in_turn : {P : Type 0} (output_of : P → List ℕ) (host : HostState P) (token : Token)
    (party : P) (first second : List ℕ) (left a b : ℕ) → IsAt host.table.slots.items token party
    → has_turn host.turn.token token ≡ true → LendsFirst (output_of party) first second
    → left ≡ most_given - host.turn.gave → a ≡ min (length first) left
    → b ≡ min (length second) (left - length (take a first))
    → LendsInTurn output_of host token (take a first) (take b second)
lends_in_turn {P = P} output_of host token party first second left a b at its lends is is_a is_b =
    record {
      few = rw (sym is) (cut_few first second left a b is_a is_b);
      own = λ other other_at.
          subst (λ (p : P). StartsWith (output_of p) (take a first ++ take b second))
          (same_at host.table.slots.items token party other at other_at)
          (cut_starts (output_of party) first second left a b lends.part is_a is_b);
      some = λ other other_at has waits more.
          let same = same_at host.table.slots.items token other party other_at at in
          let some = lends.some (subst (λ (p : P). 0 < length (output_of p)) same waits) in
          cut_some first left a is_a some (omega (arith, is, more));
      not_now = λ no. absurd (no (party, at));
      not_its_turn = λ no. let contrary : true ≡ false = sym its ∙ no in
          absurd (let k = contrary in cc);
    }
