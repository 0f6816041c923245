-- Blocks as they are written: the updates at the beginning, and the fields after them.
use Rattle.hpack.proofs.Names.{◌≡◌, ℕ, ◌+◌, ◌^◌, ◌<◌, ◌≤◌, ◌==◌, nat_lt, if◌then◌else◌, Bool, true}
use Rattle.hpack.proofs.Names.{false, List, [], ◌∷◌, ◌++◌, length, refl, sym, arith, append_assoc}
use Rattle.hpack.proofs.Names.{AllByRecursion, flat_map, ltb-false, eqb-true, sum_by-cons, integer}
use Rattle.hpack.proofs.Names.{Field, table_size, fit, Entries, resized, Fields, Updates, Block}
use Rattle.hpack.proofs.Names.{EncoderState, list_size, choice, encoding_of_field, after_choice}
use Rattle.hpack.proofs.Names.{encoding_of_fields, after_fields, size_updates, after_updates}
use Rattle.hpack.proofs.Names.{block_of, after_block, IsValidEncoder, AreOctets}
use Rattle.hpack.proofs.WrittenTables.{fit_within}
use Rattle.hpack.proofs.WrittenFields.{IsTableOf, IsWritable, update_written, choice_encodes}
use Rattle.hpack.proofs.WrittenFields.{choice_preserves}

-- a field's size in a list
abbrev field_size : Field → ℕ
field_size field = length field.name + length field.value + 32

-- What is written for fields encodes them.
pub fields_encode : (maximum : ℕ) (table : Entries) (fields : List Field) → maximum < 2 ^ 32
    → IsTableOf maximum table → AreOctets fields → list_size fields < 2 ^ 35
    → Fields table (encoding_of_fields table fields) fields (after_fields table fields)
unfolding encoding_of_fields after_fields
fields_encode maximum table [] small is octets few = (refl, refl)
fields_encode maximum table (field ∷ fields) small is (first, others) few =
    let sizes : list_size (field ∷ fields) ≡ field_size field + list_size fields =
    sum_by-cons field_size field fields in
    let writable : IsWritable field = record {
      name = first.0;
      value = first.1;
      short_name = omega (arith, sizes);
      short_value = omega (arith, sizes);
    } in
    let chosen = choice table field in (
      encoding_of_field chosen field,
      encoding_of_fields (after_choice table chosen field) fields,
      after_choice table chosen field,
      refl,
      choice_encodes maximum table field small is writable,
      fields_encode maximum (after_choice table chosen field) fields small
          (choice_preserves maximum table chosen field is) others (omega (arith, sizes)),
    )

-- After fields the table is within its maximum.
pub fields_preserve : (maximum : ℕ) (table : Entries) (fields : List Field)
    → IsTableOf maximum table → IsTableOf maximum (after_fields table fields)
unfolding after_fields
fields_preserve maximum table [] is = is
fields_preserve maximum table (field ∷ fields) is =
    fields_preserve maximum (after_choice table (choice table field) field) fields
    (choice_preserves maximum table (choice table field) field is)

-- What is written for maxima, none of them above the bound, are updates to them.
pub updates_encode : (bound limit : ℕ) (table : Entries) (maxima : List ℕ) (others : List ℕ)
    → bound < 2 ^ 32 → bound ≤ limit → AllByRecursion (λ (maximum : ℕ). maximum ≤ bound) maxima
    → Updates limit table (flat_map (integer 5 0x20) maxima ++ others) maxima
    (after_updates table maxima) others
updates_encode bound limit table [] others small le all = (refl, refl)
updates_encode bound limit table (maximum ∷ maxima) others small le (first, rest) = (
  integer 5 0x20 maximum,
  flat_map (integer 5 0x20) maxima ++ others,
  append_assoc (integer 5 0x20 maximum) (flat_map (integer 5 0x20) maxima) others,
  update_written maximum (omega arith),
  omega arith,
  updates_encode bound limit (resized table maximum) maxima others small le rest,
)

-- A table that is resized is within its new maximum.
resized_preserves : (table : Entries) (maximum : ℕ) → IsTableOf maximum (resized table maximum)
resized_preserves table maximum = record { same = refl; within = fit_within table.entries maximum }

-- Updates to these maxima are fit for the limit: none is above it, and after them the table has it
-- as its maximum, and is within it.
pub record AreUpdates (state : EncoderState) (maxima : List ℕ) : Type 0 where
  pub below : AllByRecursion (λ (maximum : ℕ). maximum ≤ state.limit) maxima
  pub table : IsTableOf state.limit (after_updates state.table maxima)

-- one update to the limit
update_once : (state : EncoderState) → AreUpdates state (state.limit ∷ [])
update_once state = record {
  below = (omega arith, tt);
  table = resized_preserves state.table state.limit;
}

-- the updates that are written, by their tests
updates_fit_by : (state : EncoderState) (fell alike rose : Bool) → IsValidEncoder state
    → nat_lt state.least state.table.maximum ≡ fell → state.limit == state.least ≡ alike
    → nat_lt state.table.maximum state.limit ≡ rose
    → AreUpdates state (if fell then state.least ∷ (if alike then [] else state.limit ∷ [])
    else if rose then state.limit ∷ [] else [])
updates_fit_by state true true rose writing fell same is_rose =
    let one : state.limit ≡ state.least = eqb-true state.limit state.least same in
    let preserved : table_size (fit state.table.entries state.least) ≤ state.least =
    fit_within state.table.entries state.least in
    record {
      below = (writing.least, tt);
      table = record { same = sym one; within = omega (arith, preserved, one) };
    }
updates_fit_by state true false rose writing fell same is_rose = record {
  below = (writing.least, (omega arith, tt));
  table = resized_preserves (resized state.table state.least) state.limit;
}
updates_fit_by state false alike true writing fell same is_rose = update_once state
updates_fit_by state false alike false writing fell same is_rose =
    let least = ltb-false state.least state.table.maximum fell in
    let most = ltb-false state.table.maximum state.limit is_rose in
    let below = writing.least in
    let within = writing.within in
    record {
      below = tt;
      table = record {
        same = omega (arith, least, most, below);
        within = omega (arith, least, below, within);
      };
    }

-- The updates that are written are fit for the limit.
pub updates_fit : (state : EncoderState) → IsValidEncoder state
    → AreUpdates state (size_updates state)
unfolding size_updates
updates_fit state writing =
    updates_fit_by state (nat_lt state.least state.table.maximum) (state.limit == state.least)
    (nat_lt state.table.maximum state.limit) writing refl refl refl

-- After a block the table has the limit as its maximum, and is within it.
pub block_preserves : (state : EncoderState) (fields : List Field) → IsValidEncoder state
    → IsTableOf state.limit (after_block state fields).table
unfolding after_block
block_preserves state fields writing =
    fields_preserve state.limit (after_updates state.table (size_updates state)) fields
    (updates_fit state writing).table

-- What is written for a list is a block of it.
pub block_encodes : (state : EncoderState) (limit : ℕ) (fields : List Field) → IsValidEncoder state
    → AreOctets fields → list_size fields < 2 ^ 35 → state.limit ≤ limit
    → Block state.table limit (block_of state fields) fields (after_block state fields).table
unfolding block_of after_block
block_encodes state limit fields writing octets few le =
    let written = updates_fit state writing in
    let same = written.table.same in
    record {
      maxima = size_updates state;
      updated = after_updates state.table (size_updates state);
      others = encoding_of_fields (after_updates state.table (size_updates state)) fields;
      updates = updates_encode state.limit limit state.table (size_updates state)
          (encoding_of_fields (after_updates state.table (size_updates state)) fields) writing.limit
          le written.below;
      within = omega (arith, same, le);
      encoded = fields_encode state.limit (after_updates state.table (size_updates state)) fields
          writing.limit written.table octets few;
    }

-- After a block the encoder goes on.
pub block_goes_on : (state : EncoderState) (fields : List Field) → IsValidEncoder state
    → IsValidEncoder (after_block state fields)
unfolding after_block
block_goes_on state fields writing =
    let preserved = block_preserves state fields writing in
    let same = preserved.same in
    let within = preserved.within in
    let limit = writing.limit in
    record {
      least = omega arith;
      limit = limit;
      maximum = omega (arith, same, limit);
      within = omega (arith, same, within);
    }
