-- How many DATA a body makes, and how long they are.
use Rattle.std.proofs.Common.{◌≡◌, ◌≢◌, ℕ, zero, suc, ◌+◌, ◌*◌, ◌-◌, ◌≤◌, ◌==◌}
use Rattle.std.proofs.Common.{◌&&◌, not, nat_le, Bool, true, false, List, [], ◌∷◌}
use Rattle.std.proofs.Common.{◌++◌}
use Rattle.std.proofs.Common.{length, length-drop, length-take, take, drop}
use Rattle.std.proofs.Common.{None, refl, arith, leb-false}
use Rattle.std.proofs.Common.{if◌then◌else◌}
use Rattle.std.proofs.lemmas.Bool.{and_parts, ne_eqb}
use Rattle.std.proofs.lemmas.Bool.{eqb-true}
use Rattle.h2_frame.specs.Frames.{Data}
use Rattle.h2_frame.specs.Encoding.{payload_of}
use Rattle.h2_block.specs.Grouping.{Item, alone, block}
unfoldable use Rattle.h2_spec_log.specs.CallRules.{items_of, data_frames, data_items}
unfoldable use Rattle.h2_spec_log.specs.CallRules.{stream_of_act}
unfoldable use Rattle.h2_spec_log.specs.Items.{total, encoding_of_items}
unfoldable use Rattle.h2_spec_log.specs.Log.{active_count, waiting, output}
unfoldable use Rattle.h2_spec_log.specs.LogCalls.{with_call, with_items}
unfoldable use Rattle.h2_spec_log.specs.LogSteps.{with_sent}
use Rattle.h2_laws_log.proofs.ItemSizes.{size_of, size-append, size-frame}
use Rattle.h2_laws_log.proofs.WindowsOfTwoEnds.{total-append}
unfoldable use Rattle.h2_ends.specs.EndCalls.{octets_among}
unfoldable use Rattle.h2_ends.specs.EndCalls.{MayPump}
unfoldable use Rattle.h2_laws_quiet.proofs.FewDue.{one_data}
use Rattle.h2_laws_quiet.proofs.FewItems.{CountsNoAnswer}

-- DATA is no answer.
pub frames_counts : CountsNoAnswer one_data
unfolding one_data
frames_counts = record { update = λ i n. refl; settings = λ pairs. refl; ping = λ octets. refl }

pub block_is_no_frame : (id : ℕ) (end : Bool) (octets : List ℕ)
    → one_data (block id end octets) ≡ 0
unfolding one_data
block_is_no_frame id end octets = refl

-- DATA of some octets: how many, and their octets.
frames_by : (most n : ℕ) (one last : Item) (others : List Item) (b : Bool)
    → (b ≡ true → 16384 * one_data one ≤ n + 16384)
    → (b ≡ false → 16384 * (total one_data others + one_data last) ≤ n + 16384)
    → 16384 * total one_data (if b then one ∷ [] else others ++ last ∷ []) ≤ n + 16384
unfolding total
frames_by most n one last others true here there = omega (arith, here refl)
frames_by most n one last others false here there =
    omega (arith, there refl, total-append one_data others (last ∷ []))

frames_few : (count most id : ℕ) (octets : List ℕ) (end : Bool) → 16384 ≤ most
    → 16384 * total one_data (data_frames count most id octets end) ≤ length octets + 16384
unfolding data_frames one_data total
frames_few zero most id octets end big = omega arith
frames_few (suc count) most id octets end big =
    frames_by most (length octets) (alone (Data id end octets None))
    (alone (Data id false (take most octets) None)) (data_frames count most id (drop most octets)
    end) (nat_le (length octets) most) (λ here. omega arith) (λ there.
    let above = leb-false (length octets) most there in
    let rest = length-drop most octets in
    let others = frames_few count most id (drop most octets) end big in
    omega (arith, others, rest, above, big))

-- The last of them has one octet at least.
frames_fewer : (count most id : ℕ) (octets : List ℕ) (end : Bool) → 16384 ≤ most
    → 1 ≤ length octets
    → 16384 * total one_data (data_frames count most id octets end) ≤ (length octets - 1) + 16384
unfolding data_frames one_data total
frames_fewer zero most id octets end big some = omega arith
frames_fewer (suc count) most id octets end big some =
    frames_by most (length octets - 1) (alone (Data id end octets None))
    (alone (Data id false (take most octets) None)) (data_frames count most id (drop most octets)
    end) (nat_le (length octets) most) (λ here. omega arith) (λ there.
    let above = leb-false (length octets) most there in
    let rest = length-drop most octets in
    let others = frames_fewer count most id (drop most octets) end big (omega (arith, rest, above))
    in
    omega (arith, others, rest, above, big, some))

size_none : (by : ℕ) → size_of by [] ≡ 0
unfolding encoding_of_items
size_none by = refl

sizes_by : (by n : ℕ) (one last : Item) (others : List Item) (b : Bool)
    → (b ≡ true → size_of by (one ∷ []) ≤ n + 9 * one_data one)
    → (b ≡ false → size_of by others + size_of by (last ∷ [])
    ≤ n + 9 * (total one_data others + one_data last))
    → size_of by (if b then one ∷ [] else others ++ last ∷ [])
    ≤ n + 9 * total one_data (if b then one ∷ [] else others ++ last ∷ [])
unfolding total
sizes_by by n one last others true here there = omega (arith, here refl)
sizes_by by n one last others false here there =
    omega (
      arith,
      there refl,
      total-append one_data others (last ∷ []),
      size-append by others (last ∷ []),
    )

sizes_few : (by count most id : ℕ) (octets : List ℕ) (end : Bool)
    → size_of by (data_frames count most id octets end)
    ≤ length octets + 9 * total one_data (data_frames count most id octets end)
unfolding data_frames one_data total payload_of
sizes_few by zero most id octets end = omega (arith, size_none by)
sizes_few by (suc count) most id octets end =
    sizes_by by (length octets) (alone (Data id end octets None))
    (alone (Data id false (take most octets) None)) (data_frames count most id (drop most octets)
    end) (nat_le (length octets) most)
    (λ here. omega (arith, size-frame by (Data id end octets None)))
    (λ there.
    let above = leb-false (length octets) most there in
    let rest = length-drop most octets in
    let first = length-take most octets in
    let others = sizes_few by count most id (drop most octets) end in
    omega (
      arith,
      others,
      rest,
      first,
      above,
      size-frame by (Data id false (take most octets) None),
    ))

items_by : (by n : ℕ) (b : Bool) (items : List Item) → (b ≡ true → n ≡ 0)
    → size_of by items ≤ n + 9 * total one_data items
    → 16384 * total one_data items ≤ n + 16384
    → (size_of by (if b then [] else items)
    ≤ n + 9 * total one_data (if b then [] else items))
    × (16384 * total one_data (if b then [] else items) ≤ n + 16384)
unfolding total
items_by by n true items none sizes frames = (omega (arith, size_none by), omega arith)
items_by by n false items none sizes frames = (sizes, frames)

-- So it is of a body, of which so many octets are sent.
pub body_few : (by most id : ℕ) (octets : List ℕ) (end : Bool) (n : ℕ) → 16384 ≤ most
    → n ≤ length octets
    → (size_of by (data_items most id octets end n)
    ≤ n + 9 * total one_data (data_items most id octets end n))
    × (16384 * total one_data (data_items most id octets end n) ≤ n + 16384)
unfolding data_items
body_few by most id octets end n big within =
    let first = length-take n octets in
    let sizes = sizes_few by (suc n) most id (take n octets) (end && n == length octets) in
    let frames = frames_few (suc n) most id (take n octets) (end && n == length octets) big in
    items_by by n (n == 0 && not (length octets == 0 && end)) _
    (λ none. eqb-true n 0 (and_parts _ _ none).0) (omega (arith, sizes, first, within))
    (omega (arith, frames, first, within))

-- Of a body of which some octets are sent it is fewer.
pub body_fewer : (most id : ℕ) (octets : List ℕ) (end : Bool) (n : ℕ) → 16384 ≤ most
    → n ≤ length octets → n ≢ 0
    → 16384 * total one_data (data_items most id octets end n) ≤ (n - 1) + 16384
unfolding data_items
body_fewer most id octets end n big within some =
    let first = length-take n octets in
    let frames = frames_fewer (suc n) most id (take n octets) (end && n == length octets) big
    (omega (arith, first, within, some)) in
    rw (ne_eqb n 0 some) (omega (arith, frames, first, within))

pub body_none : (most id : ℕ) (octets : List ℕ) (end : Bool) → length octets ≢ 0
    → total one_data (data_items most id octets end 0) ≡ 0
unfolding data_items total
body_none most id octets end some = rw (ne_eqb (length octets) 0 some) refl
