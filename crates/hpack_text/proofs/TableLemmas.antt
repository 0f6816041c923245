-- The program's tables are the code.
use Rattle.hpack_text.proofs.Names.{◌≡◌, ℕ, zero, suc, ◌^◌, ◌<◌, ◌≤◌, Bool, true, ◌&&◌, nat_lt}
use Rattle.hpack_text.proofs.Names.{nat_le, get_or, refl, arith, below_more, ltb-true, leb-true}
use Rattle.hpack_text.proofs.Names.{and_parts, bits_of, code}
use Rattle.hpack_text.specs.declared.huffman.codes.TheConstants.{COUNTS, VALUES}
use Rattle.hpack_text.proofs.TreeLemmas.{computing_tree, same_bits, same_bits-true}

-- whether the test holds of all numbers below n
unfoldable pub all_below : (ℕ → Bool) → ℕ → Bool
all_below test zero = true
all_below test (suc n) = test n && all_below test n

-- A test of all numbers below n holds of each.
pub all_below-at : (test : ℕ → Bool) (n : ℕ) → all_below test n ≡ true → (k : ℕ) → k < n
    → test k ≡ true
unfolding all_below
all_below-at test zero h k lt = absurd (omega arith)
all_below-at test (suc n) h k lt =
    let parts = and_parts (test n) (all_below test n) h in
    below_more (λ j. test j ≡ true) n (all_below-at test n parts.1) parts.0 k (omega arith)

-- whether the writer's tables have the octet's code
unfoldable pub has_code : ℕ → Bool
has_code octet =
    same_bits (bits_of (get_or COUNTS octet 0) (get_or VALUES octet 0)) (code octet)
    && (nat_lt (get_or VALUES octet 0) (2 ^ get_or COUNTS octet 0)
    && nat_le (get_or COUNTS octet 0) 30)

-- computed: the writer's tables have the code of each octet
all_have_codes : all_below has_code 256 ≡ true
unfolding computing_tree all_below has_code
all_have_codes = refl

-- what the writer's tables have at an octet
pub record HasCode (octet count value : ℕ) : Type 0 where
  pub bits : bits_of count value ≡ code octet
  pub within : value < 2 ^ count
  pub most : count ≤ 30

-- The writer's tables have the code of each octet.
pub tables_have_code : (octet : ℕ) → octet < 256
    → HasCode octet (get_or COUNTS octet 0) (get_or VALUES octet 0)
unfolding has_code
tables_have_code octet lt =
    let count = get_or COUNTS octet 0 in
    let value = get_or VALUES octet 0 in
    let (same, bounds) =
    and_parts (same_bits (bits_of count value) (code octet))
    (nat_lt value (2 ^ count) && nat_le count 30)
    (all_below-at has_code 256 all_have_codes octet lt) in
    let (within, most) = and_parts (nat_lt value (2 ^ count)) (nat_le count 30) bounds in
    record {
      bits = same_bits-true (bits_of count value) (code octet) same;
      within =
          ltb-true value (2 ^ count) within;
      most = leb-true count 30 most;
    }
