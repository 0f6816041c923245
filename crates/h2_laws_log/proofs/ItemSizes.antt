-- How many octets are written of what an end writes.
use Rattle.std.proofs.Common.{map as each, ◌≡◌, ℕ, zero, suc, ◌+◌, ◌*◌, ◌≤◌, ◌==◌, nat_le}
use Rattle.std.proofs.Common.{if◌then◌else◌, Bool, true, false, List, [], ◌∷◌, ◌++◌, length, take}
use Rattle.std.proofs.Common.{drop, None, refl, ◌∙◌, arith, length-append, length-take, leb-false}
use Rattle.std.proofs.lemmas.List.Concat.{flat_map-cons}
use Rattle.h2_frame.proofs.FramePartsLemmas.{length-pair_octets, length-encoding_of}
use Rattle.h2_block.specs.Spread.{continuations, spread_frames, encoding_of_frames}
use Rattle.h2_laws_log.proofs.Names.{ap, length-drop, Frame, Data, Headers, Reset, Settings, Ping}
use Rattle.h2_laws_log.proofs.Names.{GoAway, WindowUpdate, Continuation, payload_of, encoding_of}
use Rattle.h2_laws_log.proofs.Names.{Item, alone, block, Role, Client, Server, encoding_of_item}
use Rattle.h2_laws_log.proofs.Names.{encoding_of_items, Values, opening_pairs, changed_pairs}
use Rattle.h2_laws_log.proofs.Names.{with_max_frame, data_frames, encoding_by}
use Rattle.h2_laws_log.proofs.PayloadsOfLogs.{encoding_more}

-- how many octets are written of items
abbrev pub size_of : (most : ℕ) → List Item → ℕ
size_of most items = length (encoding_of_items most items)

-- how many octets are written of items, each with its own greatest payload
abbrev pub size_by : List ℕ → List Item → ℕ
size_by payloads items = length (encoding_by payloads items)

-- More items with one greatest payload take what they take alone.
pub size_by-more : (most : ℕ) (items sent : List Item) (payloads : List ℕ)
    → size_by (each (λ one. most) items ++ payloads) (items ++ sent)
    ≡ size_by payloads sent + size_of most items
size_by-more most items sent payloads =
    ap length (encoding_more most items sent payloads)
    ∙ length-append (encoding_by payloads sent) (encoding_of_items most items)

-- A frame alone takes nine octets and its payload.
pub size-frame : (most : ℕ) (frame : Frame)
    → size_of most (alone frame ∷ []) ≡ 9 + length (payload_of frame)
unfolding encoding_of_items encoding_of_item
size-frame most frame = length-encoding_of frame

-- RST_STREAM takes 13 octets.
pub size-reset : (most stream code : ℕ) → size_of most (alone (Reset stream code) ∷ []) ≡ 13
unfolding payload_of
size-reset most stream code = size-frame most (Reset stream code)

-- WINDOW_UPDATE takes 13.
pub size-update : (most stream increment : ℕ)
    → size_of most (alone (WindowUpdate stream increment) ∷ []) ≡ 13
unfolding payload_of
size-update most stream increment = size-frame most (WindowUpdate stream increment)

-- GOAWAY without debug octets takes 17.
pub size-goaway : (most last code : ℕ) → size_of most (alone (GoAway last code []) ∷ []) ≡ 17
unfolding payload_of
size-goaway most last code = size-frame most (GoAway last code [])

-- An acknowledgment of SETTINGS takes nine.
pub size-ack : (most : ℕ) → size_of most (alone (Settings true []) ∷ []) ≡ 9
unfolding payload_of
size-ack most = size-frame most (Settings true [])

-- PING takes nine and its octets.
pub size-ping : (most : ℕ) (ack : Bool) (octets : List ℕ)
    → size_of most (alone (Ping ack octets) ∷ []) ≡ 9 + length octets
unfolding payload_of
size-ping most ack octets = size-frame most (Ping ack octets)

-- SETTINGS take nine and six of each pair.
size_settings : (most : ℕ) (pairs : List (ℕ × ℕ))
    → size_of most (alone (Settings false pairs) ∷ []) ≡ 9 + 6 * length pairs
unfolding payload_of
size_settings most pairs =
    omega (arith, size-frame most (Settings false pairs), length-pair_octets pairs)

-- The greatest frame is one pair more at most, by the test whether it is the one that was written.
length_max_by : (max_frame : ℕ) (pairs : List (ℕ × ℕ)) (b : Bool)
    → length (if b then pairs else (5, max_frame) ∷ pairs) ≤ 1 + length pairs
length_max_by max_frame pairs true = omega arith
length_max_by max_frame pairs false = omega arith

-- The greatest frame is one pair more at most.
pub length-max_frame : (written max_frame : ℕ) (pairs : List (ℕ × ℕ))
    → length (with_max_frame written max_frame pairs) ≤ 1 + length pairs
unfolding with_max_frame
length-max_frame written max_frame pairs = length_max_by max_frame pairs (max_frame == written)

-- The SETTINGS of an opening take at most 39 octets.
pub size-opening : (most : ℕ) (role : Role) (values : Values)
    → size_of most (alone (Settings false (opening_pairs role values)) ∷ []) ≤ 39
unfolding opening_pairs
size-opening most Client values = omega (arith, size_settings, length-max_frame)
size-opening most Server values = omega (arith, size_settings, length-max_frame)

-- SETTINGS that change values take at most 33.
pub size-change : (most : ℕ) (role : Role) (written : ℕ) (values : Values)
    → size_of most (alone (Settings false (changed_pairs role written values)) ∷ []) ≤ 33
unfolding changed_pairs
size-change most Client written values = omega (arith, size_settings, length-max_frame)
size-change most Server written values = omega (arith, size_settings, length-max_frame)

-- Two updates take 26 octets.
pub size-updates : (most stream increment other more : ℕ)
    → size_of most (alone (WindowUpdate stream increment) ∷ alone (WindowUpdate other more) ∷ [])
    ≡ 26
unfolding encoding_of_items encoding_of_item payload_of
size-updates most stream increment other more =
    omega (arith, length-append {A = ℕ}, length-encoding_of)

-- The octets of items, one list in front of another, take as many as both.
pub size-append : (most : ℕ) (xs ys : List Item)
    → size_of most (xs ++ ys) ≡ size_of most xs + size_of most ys
unfolding encoding_of_items
size-append most [] ys = omega arith
size-append most (x ∷ xs) ys = omega (arith, size-append most xs ys, length-append {A = ℕ})

-- DATA frames take no more than nine octets and twice their octets, by the test whether one is
-- enough.
data_size_by : (most count id : ℕ) (octets : List ℕ) (end b : Bool) → 9 ≤ most
    → nat_le (length octets) most ≡ b
    → size_of most (data_frames count most id (drop most octets) end)
    ≤ 9 + 2 * length (drop most octets)
    → size_of most (if b then alone (Data id end octets None) ∷ []
    else data_frames count most id (drop most octets) end ++ alone (Data id false
    (take most octets) None) ∷ []) ≤ 9 + 2 * length octets
unfolding payload_of
data_size_by most count id octets end true big fits few =
    omega (arith, size-frame most (Data id end octets None))
data_size_by most count id octets end false big fits few =
    omega (arith, leb-false, length-drop {A = ℕ}, length-take {A = ℕ}, size-append, size-frame)

-- DATA frames take no more than nine octets and twice their octets.
pub size-data : (most count id : ℕ) (octets : List ℕ) (end : Bool) → 9 ≤ most
    → size_of most (data_frames count most id octets end) ≤ 9 + 2 * length octets
unfolding data_frames encoding_of_items
size-data most zero id octets end big = omega arith
size-data most (suc count) id octets end big =
    data_size_by most count id octets end (nat_le (length octets) most) big refl
    (size-data most count id (drop most octets) end big)

-- The octets of a frame and others are those of both.
frames_size : (frame : Frame) (frames : List Frame)
    → length (encoding_of_frames (frame ∷ frames))
    ≡ 9 + length (payload_of frame) + length (encoding_of_frames frames)
frames_size frame frames =
    let both : length (encoding_of_frames (frame ∷ frames))
    ≡ length (encoding_of frame ++ encoding_of_frames frames) =
    ap length (flat_map-cons encoding_of frame frames) in
    omega (arith, length-append {A = ℕ}, length-encoding_of)

-- CONTINUATIONs take no more than nine octets and twice their octets, by the test whether one is
-- enough.
continuations_size_by : (most count stream : ℕ) (octets : List ℕ) (b : Bool) → 9 ≤ most
    → nat_le (length octets) most ≡ b
    → length (encoding_of_frames (continuations most count stream
    (drop most octets))) ≤ 9 + 2 * length (drop most octets)
    → length (encoding_of_frames (if b then Continuation stream true octets ∷ []
    else Continuation stream false (take most octets) ∷ continuations most count stream
    (drop most octets))) ≤ 9 + 2 * length octets
unfolding payload_of
continuations_size_by most count stream octets true big fits few = omega (arith, frames_size)
continuations_size_by most count stream octets false big fits few =
    omega (arith, leb-false, length-drop {A = ℕ}, length-take {A = ℕ}, frames_size)

-- CONTINUATIONs take no more than nine octets and twice their octets.
continuations_size : (most count stream : ℕ) (octets : List ℕ) → 9 ≤ most
    → length (encoding_of_frames (continuations most count stream octets)) ≤ 9 + 2 * length octets
unfolding continuations
continuations_size most zero stream octets big = omega arith
continuations_size most (suc count) stream octets big =
    continuations_size_by most count stream octets (nat_le (length octets) most) big refl
    (continuations_size most count stream (drop most octets) big)

module _ (most stream : ℕ) (end : Bool) (octets : List ℕ) where
  -- A block takes no more than nine octets and twice its octets, by the test whether one frame is
  -- enough.
  spread_size_by : (b : Bool) → 9 ≤ most → nat_le (length octets) most ≡ b
      → length (encoding_of_frames (if b then Headers stream end true octets None None ∷ [] else
      Headers stream end false (take most octets) None None ∷ continuations most (length octets)
      stream (drop most octets))) ≤ 9 + 2 * length octets
  unfolding payload_of
  spread_size_by true big fits = omega (arith, frames_size)
  spread_size_by false big fits = omega (
    arith,
    big,
    leb-false (length octets) most fits,
    length-drop most octets,
    length-take most octets,
    continuations_size most (length octets) stream (drop most octets) big,
    frames_size (Headers stream end false (take most octets) None None) (continuations most
        (length octets) stream (drop most octets)),
  )

  -- A block takes no more than nine octets and twice its octets.
  pub size-block : 9 ≤ most → size_of most (block stream end octets ∷ []) ≤ 9 + 2 * length octets
  unfolding encoding_of_items encoding_of_item spread_frames
  size-block big = spread_size_by (nat_le (length octets) most) big refl
