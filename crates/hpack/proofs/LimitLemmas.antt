-- The limits set between two blocks: what the least and the last of them decide.
use Rattle.hpack.proofs.Names.{◌≡◌, ℕ, ◌^◌, ◌<◌, ◌≤◌, nat_lt, Bool, true, false, min, List, [], ◌∷◌}
use Rattle.hpack.proofs.Names.{refl, sym, ◌∙◌, arith, nat_tests, Field, EncoderState, size_updates}
use Rattle.hpack.proofs.Names.{block_of, after_block, IsValidEncoder, updates_for_limits}
use Rattle.std.proofs.Common.{◌||◌, fold}
use Rattle.hpack.proofs.WrittenBlocks.{block_preserves}
use Rattle.hpack.specs.Limits.{after_limit, least_of, last_of, fell_below, chosen, IsSettled}

-- setting limits leaves the table, the least of them all, and the last
pub fold_limits : (state : EncoderState) (limits : List ℕ)
    → fold after_limit state limits
    ≡ record {
      table = state.table;
      least = least_of state.least limits;
      limit =
          last_of state.limit limits;
    }
fold_limits state [] = refl
fold_limits state (limit ∷ limits) = fold_limits (after_limit state limit) limits

-- the least of a number and others isn't above the number
pub least_below : (one : ℕ) (others : List ℕ) → least_of one others ≤ one
least_below one [] = omega arith
least_below one (other ∷ others) = let rest = least_below (min one other) others in omega arith

-- Of three tests, whichever two come first.
pub or_assoc : (x y z : Bool) → ((x || y) || z) ≡ (x || (y || z))
or_assoc true y z = refl
or_assoc false y z = refl

-- the least of a number and others is below a bound where the number or one of the others is
least_falls : (maximum one : ℕ) (limits : List ℕ)
    → nat_lt (least_of one limits) maximum ≡ (nat_lt one maximum || fell_below maximum limits)
least_falls maximum one [] = grind (arith, nat_tests)
least_falls maximum one (limit ∷ limits) =
    let rest = least_falls maximum (min one limit) limits in
    let first : nat_lt (min one limit) maximum ≡ (nat_lt one maximum || nat_lt limit maximum) =
    grind (arith, nat_tests) in
    rw (rest, first) (or_assoc (nat_lt one maximum) (nat_lt limit maximum)
    (fell_below maximum limits))

-- a bound isn't below itself
falls_from : (maximum : ℕ) (limits : List ℕ)
    → nat_lt (least_of maximum limits) maximum ≡ fell_below maximum limits
falls_from maximum limits = let same : nat_lt maximum maximum ≡ false = grind (arith, nat_tests) in
    rw (least_falls maximum maximum limits, same) refl

-- the updates are those that the list of all the limits says
pub size_updates_of_limits : (state : EncoderState) (limits : List ℕ) → IsSettled state
    → size_updates (fold after_limit state limits) ≡ updates_for_limits state.table.maximum limits
unfolding size_updates updates_for_limits
size_updates_of_limits state limits settled =
    let least : state.least ≡ state.table.maximum = settled.least ∙ sym settled.maximum in
    let falls = falls_from state.table.maximum limits in
    rw (fold_limits state limits, least, sym settled.maximum, falls) refl

-- the block is the one that the list of all the limits says
pub block_of_limits : (state : EncoderState) (limits : List ℕ) (fields : List Field)
    → IsSettled state
    → block_of (fold after_limit state limits) fields ≡ chosen state.table limits fields
unfolding block_of
block_of_limits state limits fields settled =
    let table : (fold after_limit state limits).table ≡ state.table =
    rw (fold_limits state limits) refl in
    rw (size_updates_of_limits state limits settled, table) refl

-- setting a limit leaves what must be true of the encoder
pub limit_preserves : (state : EncoderState) (limit : ℕ) → limit < 2 ^ 32 → IsValidEncoder state
    → IsValidEncoder (after_limit state limit)
limit_preserves state limit small is =
    record { least = omega arith; limit = small; maximum = is.maximum; within = is.within }

-- a block leaves no limit that was set since
pub block_settles : (state : EncoderState) (fields : List Field) → IsValidEncoder state
    → IsSettled (after_block state fields)
unfolding after_block
block_settles state fields is =
    record { least = refl; maximum = (block_preserves state fields is).same }
