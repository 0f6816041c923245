-- Which items can be sent; and what is known of those that were read.
use Rattle.h2_laws_end.proofs.Names
use Names.{◌≡◌, ℕ, ◌^◌, ◌≤◌, ◌<◌, ◌==◌, Bool, true, false, if◌then◌else◌, List, [], ◌∷◌, ◌++◌}
use Names.{length, None, refl, arith, AllByRecursion, lt-ltb, Code, code_number, Frame, Data, Reset}
use Names.{Settings, Ping, GoAway, WindowUpdate, Item, alone, block, max_frame_size_sent, Role}
use Names.{Client, Server, Values, data_items, IsSendable, AreSendable, le-ltb, payload_of}
use Names.{stream_of, max_list, AreInRange, opening_pairs}
use Rattle.std.proofs.Common.{map as each}
use Rattle.h2_frame.specs.Heads.{fits_stream}
use Rattle.h2_frame.specs.Encoding.{kind_of_frame, has_good_values, refusal, IsTyped}
use Rattle.h2_block.specs.Grouping.{is_standalone}
use Rattle.h2_spec_log.specs.CallRules.{changed_pairs, with_max_frame}
use Rattle.h2_laws_log.proofs.ItemSizes.{size_of, size-frame, size-opening, size-change}
use Rattle.h2_laws_end.proofs.DataItems.{body_all}
use Rattle.h2_frame.specs.declared.code.Code.TheVariants as codes

-- A greatest payload that may be in force: from 16,384 octets to the own limit.
abbrev pub IsPayload : ℕ → Type 0
IsPayload most = (16384 ≤ most) × (most ≤ max_frame_size_sent)

-- A frame is refused for nothing whose payload is short, and whose stream and values fit.
refused_not : (frame : Frame) → length (payload_of frame) ≤ max_frame_size_sent
    → stream_of frame < 2 ^ 31 → fits_stream (kind_of_frame frame) (stream_of frame) ≡ true
    → has_good_values frame ≡ true → refusal frame ≡ None
unfolding refusal
refused_not frame short low fits good =
    rw (
      le-ltb 16777215 (length (payload_of frame)) (omega (arith, short)),
      lt-ltb (stream_of frame) (2 ^ 31) low,
      fits,
      good,
    ) refl

-- Such a frame can be sent.
frame_sendable : (most : ℕ) (frame : Frame) → IsPayload most → is_standalone frame ≡ true
    → length (payload_of frame) ≤ most → stream_of frame < 2 ^ 31
    → fits_stream (kind_of_frame frame) (stream_of frame) ≡ true
    → has_good_values frame ≡ true → IsTyped frame → IsSendable most (alone frame)
frame_sendable most frame may standalone short low fits good typed = (
  standalone,
  refused_not frame (omega (arith, short, may.1)) low fits good,
  typed,
  short,
)

-- DATA without padding.
data_sendable : (most stream : ℕ) (end : Bool) (octets : List ℕ) → IsPayload most → 1 ≤ stream
    → stream < 2 ^ 31 → length octets ≤ most
    → IsSendable most (alone (Data stream end octets None))
unfolding is_standalone stream_of kind_of_frame fits_stream has_good_values payload_of
data_sendable most stream end octets may some low short =
    frame_sendable _ _ may refl short low (lt-ltb 0 stream some) refl tt

-- RST_STREAM.
pub reset_sendable : (most stream code : ℕ) → IsPayload most → 1 ≤ stream → stream < 2 ^ 31
    → code < 2 ^ 32 → IsSendable most (alone (Reset stream code))
unfolding is_standalone stream_of kind_of_frame fits_stream has_good_values payload_of
reset_sendable most stream code may some low typed =
    frame_sendable _ _ may refl (omega (arith, may.0)) low (lt-ltb 0 stream some) refl typed

-- WINDOW_UPDATE.
pub update_sendable : (most stream increment : ℕ) → IsPayload most → stream < 2 ^ 31
    → increment < 2 ^ 31 → IsSendable most (alone (WindowUpdate stream increment))
unfolding is_standalone stream_of kind_of_frame fits_stream has_good_values payload_of
update_sendable most stream increment may low small =
    frame_sendable _ _ may refl (omega (arith, may.0)) low refl (lt-ltb increment (2 ^ 31) small) tt

-- GOAWAY.
pub goaway_sendable : (most last code : ℕ) → IsPayload most → last < 2 ^ 31 → code < 2 ^ 32
    → IsSendable most (alone (GoAway last code []))
unfolding is_standalone stream_of kind_of_frame fits_stream has_good_values payload_of
goaway_sendable most last code may low typed =
    frame_sendable most (GoAway last code []) may refl (omega (arith, may.0)) (omega arith) refl
    (lt-ltb last (2 ^ 31) low) typed

-- PING.
pub ping_sendable : (most : ℕ) (ack : Bool) (octets : List ℕ) → IsPayload most
    → length octets ≡ 8 → IsSendable most (alone (Ping ack octets))
unfolding is_standalone stream_of kind_of_frame fits_stream has_good_values payload_of
ping_sendable most ack octets may eight =
    frame_sendable _ _ may refl (omega (arith, eight, may.0)) (omega arith) refl refl eight

-- An acknowledgment of SETTINGS.
pub ack_sendable : (most : ℕ) → IsPayload most → IsSendable most (alone (Settings true []))
unfolding is_standalone stream_of kind_of_frame fits_stream has_good_values payload_of
ack_sendable most may =
    frame_sendable most (Settings true []) may refl (omega (arith, may.0)) (omega arith) refl refl
    tt

-- The numbers of a pair of SETTINGS fit.
abbrev PairFits : (ℕ × ℕ) → Type 0
PairFits pair = (pair.0 < 2 ^ 16) × (pair.1 < 2 ^ 32)

-- A pair of SETTINGS whose numbers fit.
pair_fits : (id value : ℕ) → id < 2 ^ 16 → value < 2 ^ 32 → PairFits (id, value)
pair_fits id value low small = (low, small)

-- The greatest frame fits, where it is named, by the test whether it is the one written last.
frame_fits_by : (max_frame : ℕ) (pairs : List (ℕ × ℕ)) (same : Bool) → max_frame < 2 ^ 32
    → AllByRecursion PairFits pairs
    → AllByRecursion PairFits (if same then pairs else (5, max_frame) ∷ pairs)
frame_fits_by max_frame pairs true small others = others
frame_fits_by max_frame pairs false small others =
    (pair_fits 5 max_frame (omega arith) small, others)

-- The greatest frame fits, and pairs after it.
frame_fits : (written : ℕ) (values : Values) (pairs : List (ℕ × ℕ)) → AreInRange values
    → AllByRecursion PairFits pairs
    → AllByRecursion PairFits (with_max_frame written values.max_frame pairs)
unfolding with_max_frame
frame_fits written values pairs ok others =
    frame_fits_by _ _ (values.max_frame == written) (omega (arith, ok.max_frame)) others

-- The number of streams fits.
streams_fit : (values : Values) → AreInRange values → PairFits (3, values.max_streams)
streams_fit values ok = pair_fits 3 values.max_streams (omega arith) (omega (arith, ok.max_streams))

-- The pairs of an opening fit.
opening_fits : (role : Role) (values : Values) → AreInRange values
    → AllByRecursion PairFits (opening_pairs role values)
unfolding opening_pairs
opening_fits role values ok =
    let table = pair_fits 1 values.table_limit (omega arith) (omega (arith, ok.table_limit)) in
    let window = pair_fits 4 _ (omega arith) (omega (arith, ok.initial_window)) in
    let list = pair_fits 6 max_list (omega arith) (omega arith) in
    let frame = frame_fits 16384 values ((6, max_list) ∷ []) ok (list, tt) in
    elim role as (λ (role : Role). AllByRecursion PairFits (opening_pairs role values)) [
      | Client ↦ (table, (pair_fits 2 0 (omega arith) (omega arith), (window, frame)))
      | Server ↦ (table, (streams_fit values ok, (window, frame)))
    ]

-- The pairs of changed SETTINGS fit.
change_fits : (role : Role) (written : ℕ) (values : Values) → AreInRange values
    → AllByRecursion PairFits (changed_pairs role written values)
unfolding changed_pairs
change_fits role written values ok =
    let table = pair_fits 1 values.table_limit (omega arith) (omega (arith, ok.table_limit)) in
    let window = pair_fits 4 _ (omega arith) (omega (arith, ok.initial_window)) in
    let frame = frame_fits written values [] ok tt in
    elim role as (λ (role : Role). AllByRecursion PairFits (changed_pairs role written values)) [
      | Client ↦ (table, (window, frame))
      | Server ↦ (table, (streams_fit values ok, (window, frame)))
    ]

-- SETTINGS whose pairs fit, and that take few octets.
settings_sendable : (most : ℕ) (pairs : List (ℕ × ℕ)) → IsPayload most
    → size_of most (alone (Settings false pairs) ∷ []) ≤ 39 → AllByRecursion PairFits pairs
    → IsSendable most (alone (Settings false pairs))
unfolding is_standalone stream_of kind_of_frame fits_stream has_good_values
settings_sendable most pairs may few fit =
    frame_sendable most (Settings false pairs) may refl
    (omega (arith, few, size-frame most (Settings false pairs), may.0)) (omega arith) refl refl fit

-- The SETTINGS of an opening.
pub opening_sendable : (most : ℕ) (role : Role) (values : Values) → IsPayload most
    → AreInRange values → IsSendable most (alone (Settings false (opening_pairs role values)))
opening_sendable most role values may ok =
    settings_sendable _ _ may (size-opening most role values) (opening_fits role values ok)

-- Changed SETTINGS.
pub change_sendable : (most : ℕ) (role : Role) (written : ℕ) (values : Values) → IsPayload most
    → AreInRange values
    → IsSendable most (alone (Settings false (changed_pairs role written values)))
change_sendable most role written values may ok =
    settings_sendable most (changed_pairs role written values) may
    (omega (arith, size-change most role written values)) (change_fits role written values ok)

-- The number of an error code has 32 bits.
pub code_low : (code : Code) → code_number code < 2 ^ 32
code_low codes.NoError = omega arith
code_low code = omega arith

-- What is written of a body can be sent.
pub data_items_sendable : (most id : ℕ) (octets : List ℕ) (end : Bool) (count : ℕ)
    → IsPayload most → 1 ≤ id → id < 2 ^ 31
    → AllByRecursion (IsSendable most) (data_items most id octets end count)
data_items_sendable most id octets end count may some low =
    body_all _ _ _ (λ one short. data_sendable most id false one may some low short) _ _ count
    (λ last short. data_sendable most id _ last may some low short)

-- Items can be sent, each with the same greatest payload.
pub are_sendable : (most : ℕ) (items : List Item) → AllByRecursion (IsSendable most) items
    → AreSendable (each (λ one. most) items) items
are_sendable most [] all = tt
are_sendable most (item ∷ items) all = (all.0, are_sendable most items all.1)

-- One list after another.
pub both_sendable : (newer older : List ℕ) (items sent : List Item) → AreSendable newer items
    → AreSendable older sent → AreSendable (newer ++ older) (items ++ sent)
both_sendable [] older [] sent here there = there
both_sendable [] older (item ∷ items) sent here there = absurd here
both_sendable (most ∷ newer) older [] sent here there = absurd here
both_sendable (most ∷ newer) older (item ∷ items) sent here there =
    (here.0, both_sendable newer older items sent here.1 there)

-- What can be sent with a payload can be with a greater one.
sendable_wider : (most other : ℕ) (item : Item) → most ≤ other → IsSendable most item
    → IsSendable other item
sendable_wider most other (alone frame) wider can =
    (can.0, can.1, can.2, omega (arith, can.3, wider))
sendable_wider most other (block stream end octets) wider can = can

-- Items that can be sent, each with its own greatest payload, can be with the greatest of all.
pub all_sendable : (payloads : List ℕ) (items : List Item) → AllByRecursion IsPayload payloads
    → AreSendable payloads items → AllByRecursion (IsSendable max_frame_size_sent) items
all_sendable [] [] may can = tt
all_sendable [] (item ∷ items) may can = absurd can
all_sendable (most ∷ payloads) [] may can = absurd can
all_sendable (most ∷ payloads) (item ∷ items) may can = (
  sendable_wider most max_frame_size_sent item (may.0).1 can.0,
  all_sendable payloads items may.1 can.1,
)
