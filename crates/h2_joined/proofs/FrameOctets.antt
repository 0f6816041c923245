-- A frame that comes has no more octets than what was unparsed before and what came with it.
use Rattle.h2_joined.proofs.Names.{◌≡◌, ℕ, ◌+◌, ◌≤◌, Bool, List, [], ◌∷◌, ◌++◌, length, drop, Option}
use Rattle.h2_joined.proofs.Names.{Some, None, inl, inr, refl, sym, ap, ◌∙◌, arith, subst}
use Rattle.h2_joined.proofs.Names.{append-nil, append_assoc, length-append, length-drop}
use Rattle.h2_frame.specs.Frames.{Frame, Data, IsPadded}
use Rattle.h2_frame.specs.Heads.{head_of}
use Rattle.h2_wire.specs.Streams.{Limits, IsFrame, AreFrames, Frames, expected_preface}
use Rattle.h2_wire.proofs.ReadingLemmas.{same_head, same_following, nine_in_frame, some_frames}

-- Where a stream begins with frames, and is these and one frame more, what follows the frames is
-- that frame.
last_frame : (limits others : Limits) (here there : ℕ) (frames : List Frame) (frame : Frame)
    (body tail all : List ℕ) → AreFrames limits here frames body
    → AreFrames others there (frames ++ frame ∷ []) all → body ++ tail ≡ all
    → (limit : ℕ) × IsFrame limit frame tail
last_frame limits others here there [] frame body tail all none
    (first, following, split, sound, nothing) joined =
    let is : tail ≡ first = rw none at joined ∙ split
    ∙ ap (λ (octets : List ℕ). first ++ octets) nothing ∙ append-nil first in (
      others (there + 9),
      subst (λ (octets : List ℕ). IsFrame (others (there + 9)) frame octets) (sym is) sound,
    )
last_frame limits others here there (one ∷ frames) frame body tail all
    (first, following, split, sound, framed) (second, beyond, parted, complete, sequel) joined =
    let line : first ++ (following ++ tail) ≡ second ++ beyond =
    sym (append_assoc first following tail) ∙ ap (λ (octets : List ℕ). octets ++ tail) (sym split)
    ∙ joined ∙ parted in
    let same : head_of first ≡ head_of second =
    same_head first second (following ++ tail) beyond (nine_in_frame _ one first sound)
    (nine_in_frame _ one second complete) line in
    let long : length first ≡ length second = sound.encodes.complete
    ∙ ap (λ head. 9 + head.length) same ∙ sym complete.encodes.complete in
    last_frame limits others (here + length first) (there + length second) frames frame following
    tail beyond framed sequel (same_following first second (following ++ tail) beyond long line)

-- The octets of the frame that ends a stream, after frames and unparsed octets.
pub record HasOctets (frame : Frame) (most : ℕ) : Type 0 where
  pub limit : ℕ
  pub all : List ℕ
  pub is : IsFrame limit frame all
  pub few : length all ≤ most

pub frame_octets : (expects : Bool) (limits others : Limits) (input octets unparsed : List ℕ)
    (frames : List Frame) (frame : Frame) → Frames expects limits input frames unparsed
    → Frames expects others (input ++ octets) (frames ++ frame ∷ []) []
    → HasOctets frame (length unparsed + length octets)
frame_octets expects limits others input octets unparsed frames frame before (inl inside) =
    absurd (some_frames frames frame inside.none)
frame_octets expects limits others input octets unparsed frames frame (inl inside) (inr after) =
    let (first, following, split, sound, nothing) = rw inside.none at after.sound.framed in
    record {
      limit = others (length (expected_preface expects) + 9);
      all = first;
      is = sound;
      few = omega (
        arith,
        ap length inside.all,
        ap length after.joined,
        length-append input octets,
        ap length (append-nil after.part),
        ap length after.sound.opened,
        length-append (expected_preface expects) after.sound.body,
        ap length split,
        length-append first following,
      );
    }
frame_octets expects limits others input octets unparsed frames frame (inr before) (inr after) =
    let preface = expected_preface expects in
    let line : preface ++ (before.sound.body ++ (unparsed ++ octets))
    ≡ preface ++ after.sound.body =
    sym (append_assoc preface before.sound.body (unparsed ++ octets))
    ∙ ap (λ (part : List ℕ). part ++ (unparsed ++ octets)) (sym before.sound.opened)
    ∙ sym (append_assoc before.part unparsed octets)
    ∙ ap (λ (stream : List ℕ). stream ++ octets) (sym before.joined) ∙ after.joined
    ∙ append-nil after.part ∙ after.sound.opened in
    let last = last_frame limits others (length preface) (length preface) frames frame
    before.sound.body (unparsed ++ octets) after.sound.body before.sound.framed after.sound.framed
    (same_following preface preface (before.sound.body ++ (unparsed ++ octets)) after.sound.body
    refl line) in
    record {
      limit = last.0;
      all = unparsed ++ octets;
      is = last.1;
      few = omega (arith, length-append unparsed octets);
    }

-- A body is no longer than its payload,
padded_octets : (padded : Bool) (payload octets : List ℕ) (pad : Option ℕ)
    → IsPadded padded payload octets pad → length octets ≤ length payload
padded_octets padded payload octets None is = omega (arith, ap length is.1)
padded_octets padded payload octets (Some count) (set, padding, long, same) =
    omega (arith, ap length same, length-append octets padding)

-- nor than its frame.
pub data_octets : (limit stream : ℕ) (end : Bool) (octets : List ℕ) (pad : Option ℕ)
    (all : List ℕ) → IsFrame limit (Data stream end octets pad) all → length octets ≤ length all
data_octets limit stream end octets pad all is =
    let few = padded_octets _ (drop 9 all) octets pad is.encodes.carried.4 in
    omega (arith, few, length-drop 9 all)
