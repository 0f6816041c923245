-- An encoder, between blocks.
use Rattle.hpack.proofs.Names.{◌≡◌, ℕ, ◌+◌, ◌^◌, ◌<◌, ◌≤◌, List, ◌∷◌, length, take, drop, get_or}
use Rattle.hpack.proofs.Names.{ap, sym, subst, ◌∙◌, arith, drop_more, drop_of_length-le}
use Rattle.hpack.proofs.Names.{AllByRecursion, IsOctet, Field, AreOctets, IsValidEncoder}
use Rattle.hpack.proofs.Names.{PendingTable, table_size, Entries, newest_first, represented}
use Rattle.hpack.proofs.Names.{IsPendingTable, EncoderState}

-- A new pending table shows that the encoder's table is within its maximum.
pub writing_of : (state : EncoderState) (pending : PendingTable)
    → IsPendingTable pending state.table → represented pending state.table ≡ state.table
    → state.least ≤ state.limit → state.limit < 2 ^ 32 → IsValidEncoder state
writing_of state pending is same least limit =
    let maximum : pending.maximum ≡ state.table.maximum = ap (λ (t : Entries). t.maximum) same in
    let entries : table_size (take pending.live (newest_first pending state.table))
    ≡ table_size state.table.entries = ap (λ (t : Entries). table_size t.entries) same in
    let counted = is.counted in
    let within = is.within in
    let small = is.small in
    record {
      least = least;
      limit = limit;
      maximum = omega (arith, maximum, small);
      within = omega (arith, counted, entries, within, maximum);
    }

-- a field of octets
abbrev pub IsOctetField : Field → Type 0
IsOctetField field = AllByRecursion IsOctet field.name × AllByRecursion IsOctet field.value

-- One more field is of octets.
pub octets_step : (fields : List Field) (index : ℕ) (field : Field) → index < length fields
    → field ≡ get_or fields index field
    → IsOctetField field → (AreOctets (drop index fields) → AreOctets fields)
    → AreOctets (drop (index + 1) fields) → AreOctets fields
octets_step fields index field lt is one so_far rest =
    so_far (subst AreOctets (sym (drop_more fields index field lt
    ∙ ap (λ (f : Field). f ∷ drop (index + 1) fields) (sym is))) (one, rest))

-- All fields are.
pub octets_end : (fields : List Field) (index : ℕ) → length fields ≤ index
    → (AreOctets (drop index fields) → AreOctets fields) → AreOctets fields
octets_end fields index past so_far =
    so_far (subst AreOctets (sym (drop_of_length-le fields past)) tt)
