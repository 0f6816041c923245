-- The first parts of the output that waits, lent and copied.
use Rattle.std.proofs.Common.{◌≡◌, ◌≤◌, ◌∙◌, ap, sym, subst, ℕ, ◌+◌, List, ◌++◌, length, take, drop}
use Rattle.std.proofs.Common.{arith, length-append, length-take, take-take, le_refl}
use Rattle.std.specs.Prelude.{min}
use Rattle.std.specs.Io.{StartsWith}
use Rattle.h2_conn.specs.declared.conn.Conn.{Conn}
use Rattle.h2_conn.specs.Conn.{LendsFrom}
use Rattle.h2_conn.proofs.WaitingParts.{starts_both, starts_on}
use Rattle.belkjoef.specs.Output.{FirstWait, output_waiting}
use Rattle.belkjoef.proofs.CopiedOctets.{both_copied}

-- A part that is lent, and the one from its end on, are the first two.
pub first_wait : (conn : Conn) (one two : List ℕ) (past : ℕ) → past ≡ length one
    → LendsFrom conn 0 one → LendsFrom conn past two → FirstWait conn one two
first_wait conn one two past is front back values log represents = (
  starts_on (output_waiting log) 0 past one two (omega (arith, is))
      (front values log represents).0 (back values log represents).0,
  (front values log represents).1,
)

-- A part is copied behind the octets before it.
pub copied_on : (queue before buffer copied part : List ℕ) (count n : ℕ) → count ≤ length before
    → count ≤ length queue → StartsWith (drop count queue) part
    → buffer ≡ take count queue ++ drop count before
    → n ≡ min (length (drop count buffer)) (length part)
    → copied ≡ take n part ++ drop n (drop count buffer)
    → take count buffer ++ copied ≡ take (count + n) queue ++ drop (count + n) before
copied_on queue before buffer copied part count n room within starts was many is =
    let one = take count queue in
    let size : length one ≡ count = omega (arith, length-take count queue, within) in
    let both = both_copied before one part count n buffer copied (omega (arith, size, room))
    (was ∙ ap (λ (xs : List ℕ). xs ++ drop count before)
    (sym (take-take count count queue (le_refl count)))) many is in
    let all : StartsWith queue (one ++ part) = starts_both queue one part
    (ap (λ (k : ℕ). take k queue) size)
    (subst (λ (k : ℕ). StartsWith (drop k queue) part) (sym size) starts) in
    let front : take (count + n) (one ++ part) ≡ take (count + n) queue =
    ap (λ (xs : List ℕ). take (count + n) xs) (sym all)
    ∙ take-take (count + n) (length (one ++ part)) queue
    (omega (arith, length-append one part, size, many)) in
    both ∙ ap (λ (xs : List ℕ). xs ++ drop (count + n) before) front
