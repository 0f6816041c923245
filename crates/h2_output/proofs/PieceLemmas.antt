-- Output in two parts, the queue and the last frame, of which a prefix is given out.
use Rattle.std.proofs.Common.{◌≡◌, ℕ, ◌+◌, ◌-◌, List, [], ◌++◌, length, min, take, drop, inl, inr}
use Rattle.std.proofs.Common.{arith}
use Rattle.std.proofs.Math.Seq.{take-length, drop-length, take-append-add, drop-append-add}
use Rattle.std.proofs.lemmas.Bool.{cases_lt}
use Rattle.std.proofs.lemmas.List.{append-nil, take-append-le, drop-append-le}

-- What is given out of both parts: what the queue has of it, and the rest from the last frame.
pub take-parts : (count queued : ℕ) (queue last : List ℕ) → queued ≡ min count (length queue)
    → take count (queue ++ last) ≡ take queued queue ++ take (count - queued) last
take-parts count queued queue last is = elim (cases_lt (length queue) count) [
  | inl more ↦
      let all : queued ≡ length queue = omega (arith, is, more) in
      let sum : length queue + (count - queued) ≡ count = omega (arith, all, more) in
      let split = take-append-add queue last (count - queued) in
      let whole : take queued queue ≡ queue = rw all (take-length queue) in
      rw whole (rw sum at split)
  | inr few ↦
      let same : queued ≡ count = omega (arith, is, few) in
      let none : count - queued ≡ 0 = omega (arith, same) in
      rw (none, same, append-nil) (take-append-le count queue last few)
]

-- What still waits.
pub drop-parts : (count queued : ℕ) (queue last : List ℕ) → queued ≡ min count (length queue)
    → drop count (queue ++ last) ≡ drop queued queue ++ drop (count - queued) last
drop-parts count queued queue last is = elim (cases_lt (length queue) count) [
  | inl more ↦
      let all : queued ≡ length queue = omega (arith, is, more) in
      let sum : length queue + (count - queued) ≡ count = omega (arith, all, more) in
      let split = drop-append-add queue last (count - queued) in
      let none : drop queued queue ≡ [] = rw all (drop-length queue) in
      rw none (rw sum at split)
  | inr few ↦
      let same : queued ≡ count = omega (arith, is, few) in
      let none : count - queued ≡ 0 = omega (arith, same) in
      rw (none, same) (drop-append-le count queue last few)
]
