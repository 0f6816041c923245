-- The lists that the reader's blocks decoded to are the first of those that the writer was given.
use Rattle.std.proofs.Math.Seq.{drop-append_seam}
use Rattle.h2_laws_pair.proofs.Names
use Names.{◌≡◌, ℕ, ◌+◌, Bool, true, false, List, [], ◌∷◌, ◌++◌, length, Option, Some, None, refl}
use Names.{sym, ap, ◌∙◌, arith, append_assoc, length-append, both_ways, Field, Entries, Block}
use Names.{EncoderState, one_block_lem, Item, alone, block, total, own_value, one_ack, Log, acked}
use Names.{Decoded, completes, IsDecodedIn, IsDecoded, table_limit, total_none, lists_accepted}
use Names.{EncodesInOrder, sent_nothing, sent_acknowledgment, sent_block, sent_other}
use Names.{changes_encoder, block_count, DecodeInOrder, HeaderTablesInStep}
use Rattle.h2_laws_pair.proofs.HeardReads.{lists_after}

-- Where the backs are as long, they are the same, and so are the fronts.
same_front : (one other back others : List (List Field)) → one ++ back ≡ other ++ others
    → length back ≡ length others → length one ≡ length other
same_front one other back others same many =
    omega (arith, ap length same, length-append one back, length-append other others)

pub same_back : (one other back others : List (List Field)) → one ++ back ≡ other ++ others
    → length back ≡ length others → back ≡ others
same_back one other back others same many =
    sym (drop-append_seam one back)
    ∙ rw (same, same_front one other back others same many) (drop-append_seam other others)

-- The oldest of items that decode in order, where it is a block, and the oldest of their lists.
pub record OldestList (first : Entries) (limit : ℕ) (octets : List ℕ)
    (lists : List (List Field)) : Type 0 where
  pub fields : List Field
  pub after : Entries
  pub newer : List (List Field)
  pub are : lists ≡ newer ++ fields ∷ []
  pub decodes : Block first limit octets fields after

limit_at_first : (sent : List Item) (count : ℕ)
    → own_value 1 4096 (count + total one_ack []) sent ≡ own_value 1 4096 count sent
limit_at_first sent count =
    let none : count + total one_ack [] ≡ count = rw (total_none one_ack) (omega arith) in
    ap (λ (acks : ℕ). own_value 1 4096 acks sent) none

one_more : (first : Entries) (limit : ℕ) (octets : List ℕ) (list : List Field)
    (older lists : List (List Field)) → lists ≡ list ∷ older
    → OldestList first limit octets older → OldestList first limit octets lists
one_more first limit octets list older lists are found = record {
  fields = found.fields;
  after = found.after;
  newer = list ∷ found.newer;
  are = rw (are, found.are) refl;
  decodes = found.decodes;
}

pub oldest_list : (newer : List Item) (stream : ℕ) (end : Bool) (octets : List ℕ)
    (sent : List Item) (count : ℕ) (first : Entries) (lists : List (List Field)) (last : Entries)
    → DecodeInOrder sent count first (newer ++ block stream end octets ∷ []) lists last
    → OldestList first (own_value 1 4096 count sent) octets lists
oldest_list [] stream end octets sent count first lists last
    (fields, older, between, are, (none, same), decodes) = record {
      fields = fields;
      after = last;
      newer = [];
      are = rw (are, none) refl;
      decodes = rw (same, limit_at_first sent count) at decodes;
    }
oldest_list (alone frame ∷ newer) stream end octets sent count first lists last decodes =
    oldest_list newer stream end octets sent count first lists last decodes
oldest_list (block other ended others ∷ newer) stream end octets sent count first lists last
    (fields, older, between, are, before, decodes) =
    one_more first (own_value 1 4096 count sent) octets fields older lists are
    (oldest_list newer stream end octets sent count first older between before)

-- What a block that comes next decodes to is the next list.
next_list : (log : Log) (octets : List ℕ) (stream : ℕ) (end : Bool) (decoded : Option Decoded)
    (lists under_way read accepted : List (List Field))
    → OldestList log.table (table_limit log) octets under_way → IsDecoded log octets decoded
    → accepted ≡ under_way ++ read → read ≡ lists → (rest : List (List Field))
    × (accepted ≡ rest ++ lists_after decoded (block stream end octets) lists)
next_list log octets stream end None lists under_way read accepted found sees all same =
    absurd (sees found.fields found.after found.decodes)
next_list log octets stream end (Some decoded) lists under_way read accepted found sees all same =
    let one = one_block_lem _ _ found.after _ _ decoded.fields found.fields sees found.decodes in
    (found.newer, rw (all, found.are, same, append_assoc, one.0) refl)

-- So it is with any item that comes next.
pub next_lists : (writer reader : Log) (newer : List Item) (item : Item)
    (decoded : Option Decoded) (lists later : List (List Field))
    → lists_accepted writer.calls ≡ later ++ lists → length lists ≡ block_count reader.received
    → HeaderTablesInStep writer reader (newer ++ item ∷ [])
    → IsDecodedIn reader decoded (completes item) → (rest : List (List Field))
    × (lists_accepted writer.calls ≡ rest ++ lists_after decoded item lists)
next_lists writer reader newer (alone frame) decoded lists later accepted many tables sees =
    (later, accepted)
next_lists writer reader newer (block stream end octets) decoded lists later accepted many tables
    sees =
    let found = oldest_list newer stream end octets reader.sent (acked reader) reader.table
    tables.under_way writer.encoder.table tables.decode in
    let same = same_back tables.under_way later tables.read lists
    (sym tables.accepted ∙ accepted) (tables.count ∙ sym many) in
    next_list reader octets stream end decoded lists tables.under_way tables.read
    (lists_accepted writer.calls) found sees tables.accepted same

-- The lists count the blocks.
pub lists_count : (decoded : Option Decoded) (item : Item) (received : List Item)
    (lists : List (List Field)) → length lists ≡ block_count received
    → length (lists_after decoded item lists) ≡ block_count (item ∷ received)
unfolding block_count
lists_count decoded (alone frame) received lists many = many
lists_count decoded (block stream end octets) received lists many = omega (arith, many)

-- So they do of items in two parts.
pub blocks_joined : (newer older : List Item)
    → block_count (newer ++ older) ≡ block_count newer + block_count older
unfolding block_count
blocks_joined [] older = omega arith
blocks_joined (alone frame ∷ newer) older = blocks_joined newer older
blocks_joined (block stream end octets ∷ newer) older = omega (arith, blocks_joined newer older)

-- An item that changes no encoder is no block.
unchanged_count : (item : Item) (sent : List Item) → changes_encoder item ≡ false
    → block_count (item ∷ sent) ≡ block_count sent
unfolding block_count changes_encoder
unchanged_count (alone frame) sent none = refl
unchanged_count (block stream end octets) sent none = absurd (both_ways true none refl)

-- There is a block for each list.
pub blocks_of_lists : (sent : List Item) (settings : List (List (ℕ × ℕ)))
    (lists : List (List Field)) (encoder : EncoderState)
    → EncodesInOrder sent settings lists encoder → length lists ≡ block_count sent
unfolding block_count
blocks_of_lists _ _ _ _ sent_nothing = refl
blocks_of_lists _ _ _ _ (sent_acknowledgment {sent} {settings} {lists} {encoder} is pairs) =
    blocks_of_lists sent settings lists encoder is
blocks_of_lists _ _ _ _ (sent_block {sent} {settings} {lists} {encoder} is stream end fields) =
    omega (arith, blocks_of_lists sent settings lists encoder is)
blocks_of_lists _ _ _ _ (sent_other {sent} {settings} {lists} {encoder} is item none) =
    blocks_of_lists sent settings lists encoder is ∙ sym (unchanged_count item sent none)
