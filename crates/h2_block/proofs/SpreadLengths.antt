-- How many octets the frames of a block have.
use Rattle.std.proofs.Common.{◌≡◌, ℕ, zero, suc, ◌+◌, ◌-◌, ◌*◌, ◌/◌, ◌%◌, ◌<◌, ◌≤◌, Bool, true}
use Rattle.std.proofs.Common.{false, List, [], ◌∷◌, length, take, drop, None, ap, sym, ◌∙◌, inl}
use Rattle.std.proofs.Common.{inr, arith, length-append, length-take, length-drop}
use Rattle.std.proofs.lemmas.Bool.{cases_lt}
use Rattle.std.proofs.lemmas.Nat.{div-add-mod', div-mul-add, div_below, mod_below}
use Rattle.std.proofs.lemmas.List.Concat.{flat_map-cons}
use Rattle.h2_frame.specs.Frames.{Frame, Headers, Continuation}
use Rattle.h2_frame.specs.Encoding.{payload_of, encoding_of}
use Rattle.h2_frame.proofs.FramePartsLemmas.{length-encoding_of}
use Rattle.h2_block.specs.Spread.{continuations, spread_frames, encoding_of_frames}
use Rattle.h2_block.proofs.SpreadLemmas.{continuations-few, continuations-more, spread_frames-few}
use Rattle.h2_block.proofs.SpreadLemmas.{spread_frames-more}

-- a CONTINUATION has nine octets more than its fragment
length-continuation : (stream : ℕ) (whole : Bool) (octets : List ℕ)
    → length (encoding_of (Continuation stream whole octets)) ≡ 9 + length octets
unfolding payload_of
length-continuation stream whole octets = length-encoding_of (Continuation stream whole octets)

-- and so has HEADERS without padding and priority
length-headers : (stream : ℕ) (end whole : Bool) (octets : List ℕ)
    → length (encoding_of (Headers stream end whole octets None None)) ≡ 9 + length octets
unfolding payload_of
length-headers stream end whole octets =
    length-encoding_of (Headers stream end whole octets None None)

-- a frame and those that follow it, counted
length-frames : (line : List Frame) (frame : Frame) (frames : List Frame) → line ≡ frame ∷ frames
    → length (encoding_of_frames line)
    ≡ length (encoding_of frame) + length (encoding_of_frames frames)
length-frames line frame frames split =
    ap length (ap encoding_of_frames split ∙ flat_map-cons encoding_of frame frames)
    ∙ length-append (encoding_of frame) (encoding_of_frames frames)

module _ (most : ℕ) where
  -- `most` octets more are one frame more
  further : (count after : ℕ) → 1 ≤ most → after + most ≡ count → 0 < after
      → (count - 1) / most ≡ 1 + (after - 1) / most
  further count after positive is some =
      let whole = div-add-mod' (after - 1) most in
      let more : (1 + (after - 1) / most) * most + (after - 1) % most ≡ count - 1 =
      omega (arith, whole, is, some) in
      sym (ap (λ (n : ℕ). n / most) more) ∙ div-mul-add (1 + (after - 1) / most) most
      ((after - 1) % most) (mod_below (after - 1) most positive)

  -- octets that fit one frame need no other
  none_more : (count : ℕ) → 1 ≤ most → count ≤ most → (count - 1) / most ≡ 0
  none_more count positive few = omega (
    arith,
    div_below (count - 1) most 1 positive (omega (arith, few, positive)),
  )

  -- CONTINUATIONs have nine octets more each
  length-continuations : (count stream : ℕ) (octets : List ℕ) → 1 ≤ most → 0 < length octets
      → length octets ≤ count
      → length (encoding_of_frames (continuations most count stream octets)) ≡ length octets + 9 *
      (1 + (length octets - 1) / most)
  length-continuations zero stream octets positive some enough = absurd (omega arith)
  length-continuations (suc count) stream octets positive some enough =
      elim (cases_lt most (length octets)) [
        | inl more ↦
            let left : length (drop most octets) + most ≡ length octets =
            omega (arith, length-drop most octets, more) in
            let full : length (take most octets) ≡ most =
            length-take most octets ∙ omega (arith, more) in
            let split = further (length octets) (length (drop most octets)) positive left
            (omega (arith, left, more)) in
            let first = length-continuation stream false (take most octets) in
            let later = length-continuations count stream (drop most octets) positive
            (omega (arith, left, more)) (omega (arith, left, enough, positive)) in
            length-frames (continuations most (suc count) stream octets)
            (Continuation stream false (take most octets))
            (continuations most count stream (drop most octets))
            (continuations-more most count stream octets more)
            ∙ omega (arith, first, later, left, full, split)
        | inr few ↦ length-frames (continuations most (suc count) stream octets)
            (Continuation stream true octets) [] (continuations-few most count stream octets few)
            ∙ omega (
              arith,
              length-continuation stream true octets,
              none_more (length octets) positive few,
              some,
            )
      ]

  -- The frames of a block have nine octets more each: one frame, and one more for each `most`
  -- octets that more octets follow.
  pub length-spread_frames : (stream : ℕ) (end : Bool) (octets : List ℕ) → 1 ≤ most
      → length (encoding_of_frames (spread_frames most stream end octets)) ≡ length octets + 9 *
      (1 + (length octets - 1) / most)
  length-spread_frames stream end octets positive = elim (cases_lt most (length octets)) [
    | inl more ↦
        let left : length (drop most octets) + most ≡ length octets =
        omega (arith, length-drop most octets, more) in
        let full : length (take most octets) ≡ most =
        length-take most octets ∙ omega (arith, more) in
        let split = further (length octets) (length (drop most octets)) positive left
        (omega (arith, left, more)) in
        let first = length-headers stream end false (take most octets) in
        let later = length-continuations (length octets) stream (drop most octets) positive
        (omega (arith, left, more)) (omega (arith, left, positive)) in
        length-frames (spread_frames most stream end octets)
        (Headers stream end false (take most octets) None None)
        (continuations most (length octets) stream (drop most octets))
        (spread_frames-more most stream end octets more)
        ∙ omega (arith, first, later, left, full, split)
    | inr few ↦ length-frames (spread_frames most stream end octets)
        (Headers stream end true octets None None)
        [] (spread_frames-few most stream end octets few) ∙ omega (
          arith,
          length-headers stream end true octets,
          none_more (length octets) positive few,
        )
  ]
