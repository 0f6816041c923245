-- Where the body of a complete frame lies.
use Rattle.h2_wire.proofs.Names.{◌≡◌, ℕ, ◌+◌, ◌-◌, ◌≤◌, List, length, take, drop, Option, Some}
use Rattle.h2_wire.proofs.Names.{None, IfSome, refl, sym, ap, ◌∙◌, arith, length-drop, drop-drop}
use Rattle.h2_wire.proofs.Names.{length-take, le-leb, drop-take, take_all, Frame, Carries, Complete}
use Rattle.h2_wire.proofs.Names.{Source, CutterState, octets_of, octets_at}
use Rattle.h2_frame.specs.Frames.{pad_of, Data, Headers, Priority, Reset, Settings, Ping, GoAway}
use Rattle.h2_frame.specs.Frames.{WindowUpdate, Continuation, Unknown, unpadded, is_padded}
use Rattle.std.proofs.lemmas.List.{take-take}
use Rattle.h2_frame.specs.Heads.{has_padding}
use Rattle.h2_frame.proofs.PaddingLemmas.{padded_is_unpadded}
use Rattle.h2_wire.specs.Cutter.{HasFrame, octets_from, octets_within, body_between, body_at}
use Rattle.h2_wire.specs.Cutter.{data_of_frame}
use Rattle.h2_wire.specs.declared.cut.Source.TheVariants as sources

-- The octets of a frame are the first of those from where it begins.
frame_begins : (kept piece : List ℕ) (count : ℕ) (source : Source)
    → length (octets_at kept piece count source) ≡ count
    → (octets_at kept piece count source ≡ take count (octets_from kept piece source))
    × (count ≤ length (octets_from kept piece source))
frame_begins kept piece count (sources.Piece start) complete = (
  refl,
  omega (arith, complete, length-take count (drop start piece)),
)
frame_begins kept piece count sources.Kept complete = (
  sym (take_all count kept (omega (arith, complete))),
  omega (arith, complete),
)

-- octets that are there
between_is : (first last : ℕ) (octets : List ℕ) → first ≤ last → last ≤ length octets
    → octets_within first last octets ≡ Some (take (last - first) (drop first octets))
between_is first last octets ordered within =
    rw (le-leb first last ordered, le-leb last (length octets) within) refl

-- The body of a payload of so many octets, which follow a head of nine.
body_is : (octets : List ℕ) (count : ℕ) (pad : Option ℕ) → 9 + count ≤ length octets
    → IfSome pad (λ padding. 1 + padding ≤ count)
    → body_between pad count octets ≡ Some (unpadded pad (drop 9 (take (9 + count) octets)))
body_is octets count None within fits =
    between_is 9 (9 + count) octets (omega arith) within
    ∙ ap Some (ap (λ (m : ℕ). take m (drop 9 octets)) {x = 9 + count - 9} {y = count} (omega arith)
    ∙ sym (drop-take 9 count octets))
body_is octets count (Some padding) within fits =
    let payload : drop 9 (take (9 + count) octets) ≡ take count (drop 9 octets) =
    drop-take 9 count octets in
    let long : length (take count (drop 9 octets)) ≡ count =
    length-take count (drop 9 octets) ∙ omega (arith, within, length-drop 9 octets) in
    let tail : drop 1 (take count (drop 9 octets)) ≡ take (count - 1) (drop 10 octets) =
    ap (λ (n : ℕ). drop 1 (take n (drop 9 octets))) {x = count} {y = 1 + (count - 1)}
    (omega (arith, fits))
    ∙ drop-take 1 (count - 1) (drop 9 octets)
    ∙ ap (take (count - 1)) (drop-drop 1 9 octets) in
    between_is 10 (9 + count - padding) octets (omega (arith, fits)) (omega (arith, within))
    ∙ ap Some (rw (payload, long, tail)
    (ap (λ (m : ℕ). take m (drop 10 octets)) {x = 9 + count - padding - 10}
    {y = count - padding - 1} (omega (arith, fits))
    ∙ sym (take-take (count - padding - 1) (count - 1) (drop 10 octets) (omega arith))))

-- where an octet count is another
fits_too : (pad : Option ℕ) (count other : ℕ) → count ≡ other
    → IfSome pad (λ padding. 1 + padding ≤ count) → IfSome pad (λ padding. 1 + padding ≤ other)
fits_too pad count other same fits = rw same at fits

-- Where a complete frame is DATA its data are its body.
pub data_is_body : (cutter : CutterState) (piece : List ℕ) (frame : Complete) (value : Frame)
    → HasFrame cutter piece frame
    → Carries frame.head (drop 9 (octets_of cutter piece frame)) value
    → IfSome (data_of_frame value) (λ octets. body_at cutter piece frame ≡ Some octets)
unfolding pad_of is_padded
data_is_body cutter piece frame (Data stream end octets pad) lies carried =
    let all : List ℕ = octets_of cutter piece frame in
    let (is, fits) = padded_is_unpadded (has_padding frame.head.flags) (drop 9 all) octets pad
    frame.pad carried.4 (rw carried.0 at lies.pad) in
    let (begins, within) = frame_begins cutter.kept piece (9 + frame.head.length) frame.source
    lies.complete in
    let long : length (drop 9 all) ≡ frame.head.length =
    length-drop 9 all ∙ omega (arith, lies.complete) in
    body_is (octets_from cutter.kept piece frame.source) frame.head.length frame.pad within
    (fits_too frame.pad _ _ long fits)
    ∙ ap Some (rw (← begins) is)
data_is_body cutter piece frame (Headers stream end whole fragment pad priority) lies carried = tt
data_is_body cutter piece frame (Priority stream octets) lies carried = tt
data_is_body cutter piece frame (Reset stream code) lies carried = tt
data_is_body cutter piece frame (Settings ack pairs) lies carried = tt
data_is_body cutter piece frame (Ping ack octets) lies carried = tt
data_is_body cutter piece frame (GoAway last code debug) lies carried = tt
data_is_body cutter piece frame (WindowUpdate stream increment) lies carried = tt
data_is_body cutter piece frame (Continuation stream whole fragment) lies carried = tt
data_is_body cutter piece frame (Unknown kind flags stream payload) lies carried = tt
