-- Frames with an error of their blocks don't decode, whatever follows them, and have one error.
use Rattle.std.proofs.Common.{◌≡◌, List, [], ◌∷◌, ◌++◌, Option, refl, ap, sym, ◌∙◌, inl, inr, subst}
use Rattle.std.proofs.Common.{append-nil}
use Rattle.hpack.specs.Tables.{Entries}
use Rattle.hpack.specs.Blocks.{Block}
use Rattle.hpack.proofs.BlockLemmas.{one_block_lem}
use Rattle.h2_frame.specs.declared.code.Code.{Code}
use Rattle.h2_frame.specs.Frames.{Frame}
use Rattle.h2_block.specs.Gather.{block_fault_code}
use Rattle.h2_block.specs.declared.fault.BlockFault.{BlockFault}
use Rattle.h2_block.specs.Grouping.{Item, alone, block, Begun, Groups, GroupingFaultAt}
use Rattle.h2_block.proofs.RunLemmas.{no_grouping_lem, one_fault_lem}
use Rattle.h2_show.specs.Blocks.{first_table, show_table_limit, ItemsDecode, FramesDecode}
use Rattle.h2_show.specs.Blocks.{EndsWithBlockError}
use Rattle.h2_laws_show.proofs.Groupings.{longer_grouping}

-- The first of the items decode, and those that follow decode after them.
record DecodeInTwo (table after : Entries) (items others : List Item) : Type 0 where
  mid : Entries
  first : ItemsDecode table items mid
  following : ItemsDecode mid others after

-- Items that decode do so in two.
decode_in_two : (table after : Entries) (items others : List Item)
    → ItemsDecode table (items ++ others) after → DecodeInTwo table after items others
decode_in_two table after [] others decoded = record {
  mid = table;
  first = refl;
  following = decoded;
}
decode_in_two table after (alone frame ∷ items) others decoded =
    let two = decode_in_two table after items others decoded in
    record { mid = two.mid; first = two.first; following = two.following }
decode_in_two table after (block stream end octets ∷ items) others
    (fields, next, one, decoded) =
    let two = decode_in_two next after items others decoded in
    record { mid = two.mid; first = (fields, next, one, two.first); following = two.following }

-- Items leave one table.
one_table : (table after other : Entries) (items : List Item) → ItemsDecode table items after
    → ItemsDecode table items other → after ≡ other
one_table table after other [] same again = same ∙ sym again
one_table table after other (alone frame ∷ items) decoded again =
    one_table table after other items decoded again
one_table table after other (block stream end octets ∷ items) (fields, next, one, decoded)
    (list, left, read, again) =
    let same = one_block_lem table next left show_table_limit octets fields list one read in
    one_table next after other items decoded
    (subst (λ (from : Entries). ItemsDecode from items other) (sym same.1) again)

-- Frames with an error of their blocks don't decode, whatever follows them.
pub error_stops : (frames more : List Frame) (code : Code) (begun : Option Begun) (after : Entries)
    → EndsWithBlockError frames code → FramesDecode (frames ++ more) begun after → ⊥
error_stops frames more code begun after (inl wrong) decoded =
    no_grouping_lem frames more wrong.items decoded.items wrong.fault begun wrong.at decoded.grouped
error_stops frames more code begun after (inr wrong) decoded =
    let (following, same) = longer_grouping frames more
    (wrong.items ++ block wrong.stream wrong.end wrong.octets ∷ []) decoded.items _ begun
    wrong.grouped decoded.grouped in
    let outer = decode_in_two first_table after
    (wrong.items ++ block wrong.stream wrong.end wrong.octets ∷ []) following
    (subst (λ (items : List Item). ItemsDecode first_table items after) same decoded.decoded) in
    let inner = decode_in_two first_table outer.mid wrong.items
    (block wrong.stream wrong.end wrong.octets ∷ []) outer.first in
    let (fields, next, one, last) = inner.following in
    let table = one_table first_table inner.mid wrong.table wrong.items inner.first wrong.decoded in
    wrong.none fields next
    (subst (λ (from : Entries). Block from show_table_limit wrong.octets fields next) table one)

-- Frames at fault don't group.
no_grouping_here : (frames : List Frame) (items others : List Item) (fault : BlockFault)
    (begun : Option Begun) → GroupingFaultAt frames items fault → Groups frames others begun → ⊥
no_grouping_here frames items others fault begun at groups =
    no_grouping_lem frames [] items others fault begun at
    (subst (λ (line : List Frame). Groups line others begun) (sym (append-nil frames)) groups)

-- Frames have one error of their blocks.
pub one_error : (frames : List Frame) (code other : Code) → EndsWithBlockError frames code
    → EndsWithBlockError frames other → code ≡ other
one_error frames code other (inl wrong) (inl again) =
    let same = one_fault_lem frames [] wrong.items again.items wrong.fault again.fault wrong.at
    (subst (λ (line : List Frame). GroupingFaultAt line again.items again.fault)
    (sym (append-nil frames)) again.at) in
    wrong.coded ∙ ap block_fault_code same.1 ∙ sym again.coded
one_error frames code other (inl wrong) (inr again) =
    absurd (no_grouping_here frames wrong.items _ wrong.fault _ wrong.at again.grouped)
one_error frames code other (inr wrong) (inl again) =
    absurd (no_grouping_here frames again.items _ again.fault _ again.at wrong.grouped)
one_error frames code other (inr wrong) (inr again) = wrong.coded ∙ sym again.coded
