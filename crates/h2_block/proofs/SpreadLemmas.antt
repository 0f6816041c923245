-- A block spread over frames: what the frames are, and that they are one block and can be written.
use Rattle.std.proofs.Common.{◌≡◌, ℕ, zero, suc, ◌+◌, ◌^◌, ◌<◌, ◌≤◌, ◌==◌, min, Bool, true, false}
use Rattle.std.proofs.Common.{List, [], ◌∷◌, ◌++◌, length, take, drop, None, refl, ap, sym, ◌∙◌}
use Rattle.std.proofs.Common.{inl, inr, arith, append_assoc, append-nil, length-append, length-take}
use Rattle.std.proofs.Common.{length-drop, subst}
use Rattle.std.proofs.lemmas.Bool.{le-leb, lt-leb, le-ltb, lt-ltb, eq-eqb, ne_eqb, false≢true}
use Rattle.std.proofs.lemmas.Bool.{cases_lt}
use Rattle.std.proofs.lemmas.List.{take-append-drop, take_all}
use Rattle.std.proofs.lemmas.List.Concat.{flat_map-cons}
use Rattle.std.specs.List.{AllByRecursion}
use Rattle.h2_frame.specs.Heads.{fits_stream}
use Rattle.h2_frame.specs.Frames.{Frame, Headers, Continuation}
use Rattle.h2_frame.specs.Encoding.{kind_of_frame, stream_of, payload_of, has_good_values, refusal}
use Rattle.h2_frame.specs.Encoding.{encoding_of, IsTyped}
use Rattle.h2_block.specs.Grouping.{block, max_block_octets, AreContinuations, Groups}
use Rattle.h2_block.specs.Spread.{continuations, spread_frames, encoding_of_frames}

-- octets that fit a frame are its last
pub continuations-few : (most count stream : ℕ) (octets : List ℕ) → length octets ≤ most
    → continuations most (suc count) stream octets ≡ Continuation stream true octets ∷ []
unfolding continuations
continuations-few most count stream octets few = rw (le-leb (length octets) most few) refl

-- more octets fill a frame, and continue after it
pub continuations-more : (most count stream : ℕ) (octets : List ℕ) → most < length octets
    → continuations most (suc count) stream octets ≡ Continuation stream false (take most octets)
    ∷ continuations most count stream (drop most octets)
unfolding continuations
continuations-more most count stream octets more = rw (lt-leb (length octets) most more) refl

-- octets that fit HEADERS are one frame
pub spread_frames-few : (most stream : ℕ) (end : Bool) (octets : List ℕ) → length octets ≤ most
    → spread_frames most stream end octets ≡ Headers stream end true octets None None ∷ []
unfolding spread_frames
spread_frames-few most stream end octets few = rw (le-leb (length octets) most few) refl

-- more octets fill HEADERS, and continue after it
pub spread_frames-more : (most stream : ℕ) (end : Bool) (octets : List ℕ) → most < length octets
    → spread_frames most stream end octets ≡ Headers stream end false (take most octets) None None
    ∷ continuations most (length octets) stream (drop most octets)
unfolding spread_frames
spread_frames-more most stream end octets more = rw (lt-leb (length octets) most more) refl

-- a greater payload than the octets of a block makes no other frames
pub spread_frames-capped : (most cap stream : ℕ) (end : Bool) (octets : List ℕ)
    → length octets ≤ cap
    → spread_frames (min most cap) stream end octets ≡ spread_frames most stream end octets
spread_frames-capped most cap stream end octets within = elim (cases_lt most cap) [
  | inl less ↦ ap (λ (payload : ℕ). spread_frames payload stream end octets) (omega (arith, less))
  | inr more ↦
      spread_frames-few (min most cap) stream end octets (omega (arith, within, more))
      ∙ sym (spread_frames-few most stream end octets (omega (arith, within, more)))
]

-- The frames are CONTINUATIONs of the octets, of which the last alone ends the block.
record AreSpread (stream : ℕ) (octets : List ℕ) (frames : List Frame) : Type 0 where
  preceding : List Frame
  prefix : List ℕ
  last : List ℕ
  ended : frames ≡ preceding ++ Continuation stream true last ∷ []
  continued : AreContinuations stream preceding prefix
  joined : octets ≡ prefix ++ last

-- The CONTINUATIONs of octets are so.
continuations_spread : (most count stream : ℕ) (octets : List ℕ) → 1 ≤ most → length octets < count
    → AreSpread stream octets (continuations most count stream octets)
continuations_spread most zero stream octets positive enough = absurd (omega arith)
continuations_spread most (suc count) stream octets positive enough =
    elim (cases_lt most (length octets)) [
      | inl more ↦
          let rest = continuations_spread most count stream (drop most octets) positive
          (omega (arith, positive, length-drop most octets)) in
          record {
            preceding = Continuation stream false (take most octets) ∷ rest.preceding;
            prefix = take most octets ++ rest.prefix;
            last = rest.last;
            ended = continuations-more most count stream octets more
                ∙ ap (λ (line : List Frame). Continuation stream false (take most octets)
                ∷ line)
                rest.ended;
            continued = (take most octets, rest.prefix, refl, refl, rest.continued);
            joined = sym (take-append-drop most octets)
                ∙ ap (λ (line : List ℕ). take most octets ++ line) rest.joined
                ∙ sym (append_assoc (take most octets) rest.prefix rest.last);
          }
      | inr few ↦ record {
        preceding = [];
        prefix = [];
        last = octets;
        ended = continuations-few most count stream octets few;
        continued = refl;
        joined = refl;
      }
    ]

-- The frames over which a block is spread are it.
pub spread_grouped : (most stream : ℕ) (end : Bool) (octets : List ℕ) → 1 ≤ most
    → length octets ≤ max_block_octets
    → Groups (spread_frames most stream end octets) (block stream end octets ∷ []) None
spread_grouped most stream end octets positive within = elim (cases_lt most (length octets)) [
  | inl more ↦
      let rest = continuations_spread most (length octets) stream (drop most octets) positive
      (omega (arith, positive, length-drop most octets)) in
      record {
        complete = spread_frames most stream end octets;
        left = [];
        joined = sym (append-nil _);
        grouped = (
          spread_frames most stream end octets,
          [],
          sym (append-nil _),
          (
            inr (record {
              preceding = Headers stream end false (take most octets) None None
                  ∷ rest.preceding;
              prefix = take most octets ++ rest.prefix;
              last = rest.last;
              begun = record {
                fragment = take most octets;
                pad = None;
                priority = None;
                following = rest.preceding;
                others = rest.prefix;
                opened = refl;
                continued = rest.continued;
                joined = refl;
              };
              ended = spread_frames-more most stream end octets more
                  ∙ ap (λ (line : List Frame).
                  Headers stream end false (take most octets) None None ∷ line) rest.ended;
              joined = sym (take-append-drop most octets)
                  ∙ ap (λ (line : List ℕ). take most octets ++ line) rest.joined
                  ∙ sym (append_assoc (take most octets) rest.prefix rest.last);
            }),
            within,
          ),
          refl,
        );
        unfinished = refl;
      }
  | inr few ↦ record {
    complete = spread_frames most stream end octets;
    left = [];
    joined = sym (append-nil _);
    grouped = (
      spread_frames most stream end octets,
      [],
      sym (append-nil _),
      (
        inl (record {
          pad = None;
          priority = None;
          one = spread_frames-few most stream end octets few;
        }),
        within,
      ),
      refl,
    );
    unfinished = refl;
  }
]

-- A frame can be written, and its payload is within the limit.
abbrev pub IsWritable : ℕ → Frame → Type 0
IsWritable most frame = (refusal frame ≡ None) × IsTyped frame
    × (length (payload_of frame) ≤ most)

-- HEADERS within the limit can be written
pub headers_writable : (most stream : ℕ) (end whole : Bool) (octets : List ℕ) → most < 2 ^ 24
    → 1 ≤ stream → stream < 2 ^ 31 → length octets ≤ most
    → IsWritable most (Headers stream end whole octets None None)
unfolding refusal payload_of stream_of kind_of_frame fits_stream has_good_values
headers_writable most stream end whole octets bounded at_least at_most few = (
  rw (
    le-ltb 16777215 (length octets) (omega (arith, few, bounded)),
    lt-ltb stream (2 ^ 31) at_most,
    lt-ltb 0 stream at_least,
  ) refl,
  (tt, tt),
  few,
)

-- a CONTINUATION within the limit can be written
pub continuation_writable : (most stream : ℕ) (whole : Bool) (octets : List ℕ) → most < 2 ^ 24
    → 1 ≤ stream → stream < 2 ^ 31 → length octets ≤ most
    → IsWritable most (Continuation stream whole octets)
unfolding refusal payload_of stream_of kind_of_frame fits_stream has_good_values
continuation_writable most stream whole octets bounded at_least at_most few = (
  rw (
    le-ltb 16777215 (length octets) (omega (arith, few, bounded)),
    lt-ltb stream (2 ^ 31) at_most,
    lt-ltb 0 stream at_least,
  ) refl,
  tt,
  few,
)

module _ (most : ℕ) where
  -- The CONTINUATIONs of octets can be written.
  continuations_writable : (count stream : ℕ) (octets : List ℕ) → most < 2 ^ 24 → 1 ≤ stream
      → stream < 2 ^ 31 → AllByRecursion (IsWritable most) (continuations most count stream octets)
  unfolding continuations
  continuations_writable zero stream octets bounded at_least at_most = tt
  continuations_writable (suc count) stream octets bounded at_least at_most =
      elim (cases_lt most (length octets)) [
        | inl more ↦ subst (λ (line : List Frame). AllByRecursion (IsWritable most) line)
            (sym (continuations-more most count stream octets more)) (
              continuation_writable most stream false (take most octets) bounded at_least at_most
                  (omega (arith, length-take most octets)),
              continuations_writable count stream (drop most octets) bounded at_least at_most,
            )
        | inr few ↦ subst (λ (line : List Frame). AllByRecursion (IsWritable most) line)
            (sym (continuations-few most count stream octets few))
            (continuation_writable most stream true octets bounded at_least at_most few, tt)
      ]

  -- The frames over which a block is spread can be written.
  pub spread_writable : (stream : ℕ) (end : Bool) (octets : List ℕ) → most < 2 ^ 24 → 1 ≤ stream
      → stream < 2 ^ 31 → AllByRecursion (IsWritable most) (spread_frames most stream end octets)
  spread_writable stream end octets bounded at_least at_most =
      elim (cases_lt most (length octets)) [
        | inl more ↦ subst (λ (line : List Frame). AllByRecursion (IsWritable most) line)
            (sym (spread_frames-more most stream end octets more)) (
              headers_writable most stream end false (take most octets) bounded at_least at_most
                  (omega (arith, length-take most octets)),
              continuations_writable (length octets) stream (drop most octets) bounded at_least
                  at_most,
            )
        | inr few ↦ subst (λ (line : List Frame). AllByRecursion (IsWritable most) line)
            (sym (spread_frames-few most stream end octets few))
            (headers_writable most stream end true octets bounded at_least at_most few, tt)
      ]

  -- one CONTINUATION more than octets is enough, and more change nothing
  continuations-count : (count other stream : ℕ) (octets : List ℕ) → 1 ≤ most
      → length octets < count → length octets < other
      → continuations most count stream octets ≡ continuations most other stream octets
  continuations-count zero other stream octets positive enough plenty = absurd (omega arith)
  continuations-count (suc count) zero stream octets positive enough plenty = absurd (omega arith)
  continuations-count (suc count) (suc other) stream octets positive enough plenty =
      elim (cases_lt most (length octets)) [
        | inl more ↦ continuations-more most count stream octets more
            ∙ ap (λ (line : List Frame). Continuation stream false (take most octets) ∷ line)
            (continuations-count count other stream (drop most octets) positive
            (omega (arith, positive, length-drop most octets))
            (omega (arith, positive, length-drop most octets)))
            ∙ sym (continuations-more most other stream octets more)
        | inr few ↦ continuations-few most count stream octets few
            ∙ sym (continuations-few most other stream octets few)
      ]

-- the frames of the octets that are left: none of none
pub left_frames : (most stream : ℕ) → List ℕ → List Frame
left_frames most stream [] = []
left_frames most stream (octet ∷ octets) =
    continuations most (suc (length (octet ∷ octets))) stream (octet ∷ octets)

-- octets that are left have CONTINUATIONs
left_frames-some : (most stream : ℕ) (octets : List ℕ) → 0 < length octets
    → left_frames most stream octets ≡ continuations most (suc (length octets)) stream octets
unfolding left_frames
left_frames-some most stream [] some = absurd (omega arith)
left_frames-some most stream (octet ∷ octets) some = refl

-- no octets have none
left_frames-none : (most stream : ℕ) (octets : List ℕ) → length octets ≡ 0
    → left_frames most stream octets ≡ []
unfolding left_frames
left_frames-none most stream [] none = refl
left_frames-none most stream (octet ∷ octets) none = absurd (omega (arith, none))

-- Octets cut at the limit of a payload: a piece, what follows it, and whether that is nothing.
pub record IsCut (most : ℕ) (octets piece following : List ℕ) (whole : Bool) : Type 0 where
  pub first : piece ≡ take (min (length octets) most) octets
  pub rest : following ≡ drop (min (length octets) most) octets
  pub ends : whole ≡ (length following == 0)

module _ (most : ℕ) (octets piece following : List ℕ) (whole : Bool) where
  -- a piece is within the limit
  pub cut_few : IsCut most octets piece following whole → length piece ≤ most
  cut_few cut = rw cut.first (omega (arith, length-take (min (length octets) most) octets))

  -- octets that fit a frame are one piece
  cut_all : IsCut most octets piece following whole → length octets ≤ most → (piece ≡ octets)
      × (length following ≡ 0) × (whole ≡ true)
  cut_all cut few =
      let none : length following ≡ 0 =
      rw cut.rest (omega (arith, length-drop (min (length octets) most) octets)) in (
        cut.first ∙ take_all (min (length octets) most) octets (omega arith),
        none,
        cut.ends ∙ eq-eqb (length following) 0 none,
      )

  -- more octets are a full piece, and some after it
  cut_more : IsCut most octets piece following whole → most < length octets
      → (piece ≡ take most octets) × (following ≡ drop most octets) × (0 < length following)
      × (whole ≡ false)
  cut_more cut more =
      let at : min (length octets) most ≡ most = omega arith in
      let rest : following ≡ drop most octets = cut.rest ∙ ap (λ (n : ℕ). drop n octets) at in
      let some : 0 < length following = rw rest (omega (arith, length-drop most octets)) in (
        cut.first ∙ ap (λ (n : ℕ). take n octets) at,
        rest,
        some,
        cut.ends ∙ ne_eqb (length following) 0 (λ none. omega (arith, some, none)),
      )

module _ (most stream : ℕ) where
  -- The frames of a block are HEADERS with the first piece, and those of what is left.
  pub spread_frames-cut : (end : Bool) (octets piece following : List ℕ) (whole : Bool) → 1 ≤ most
      → IsCut most octets piece following whole
      → spread_frames most stream end octets ≡ Headers stream end whole piece None None
      ∷ left_frames most stream following
  spread_frames-cut end octets piece following whole positive cut =
      elim (cases_lt most (length octets)) [
        | inl more ↦
            let (is_piece, is_behind, some, is_open) =
            cut_more most octets piece following whole cut more in
            let rest : left_frames most stream following ≡ continuations most (length octets) stream
            (drop most octets) = left_frames-some most stream following some
            ∙ continuations-count most (suc (length following)) (length octets) stream following
            positive (omega arith) (rw is_behind (omega (arith, positive, length-drop most octets)))
            ∙ ap (λ (line : List ℕ). continuations most (length octets) stream line) is_behind in
            spread_frames-more most stream end octets more ∙ sym (rw (is_piece, is_open, rest) refl)
        | inr few ↦
            let (is_piece, none, is_whole) = cut_all most octets piece following whole cut few in
            spread_frames-few most stream end octets few
            ∙ sym (rw (is_piece, is_whole, left_frames-none most stream following none) refl)
      ]

  -- The frames of octets that are left are a CONTINUATION with the first piece, and those of what
  -- is left then.
  pub left_frames-cut : (octets piece following : List ℕ) (whole : Bool) → 1 ≤ most
      → 0 < length octets → IsCut most octets piece following whole
      → left_frames most stream octets ≡ Continuation stream whole piece ∷ left_frames most stream
      following
  left_frames-cut octets piece following whole positive any cut =
      elim (cases_lt most (length octets)) [
        | inl more ↦
            let (is_piece, is_behind, some, is_open) =
            cut_more most octets piece following whole cut more in
            let rest : left_frames most stream following ≡ continuations most (length octets) stream
            (drop most octets) = left_frames-some most stream following some ∙ continuations-count
            most (suc (length following)) (length octets) stream following positive (omega arith)
            (rw is_behind (omega (arith, positive, length-drop most octets)))
            ∙ ap (λ (line : List ℕ). continuations most (length octets) stream line) is_behind in
            left_frames-some most stream octets any ∙ continuations-more most (length octets) stream
            octets more ∙ sym (rw (is_piece, is_open, rest) refl)
        | inr few ↦
            let (is_piece, none, is_whole) = cut_all most octets piece following whole cut few in
            left_frames-some most stream octets any ∙ continuations-few most (length octets) stream
            octets few
            ∙ sym (rw (is_piece, is_whole, left_frames-none most stream following none) refl)
      ]

-- What was appended so far, and the frames of what is left, are all of it.
pub record IsSoFar (most : ℕ) (old now whole : List ℕ) (stream : ℕ) (rest : List ℕ) : Type 0 where
  pub added : List ℕ
  pub extended : now ≡ old ++ added
  pub left : added ++ encoding_of_frames (left_frames most stream rest) ≡ whole

-- the first frame was appended
pub so_far-first : (most : ℕ) (old new : List ℕ) (frames : List Frame) (frame : Frame) (stream : ℕ)
    (following : List ℕ) → frames ≡ frame ∷ left_frames most stream following
    → new ≡ old ++ encoding_of frame
    → IsSoFar most old new (encoding_of_frames frames) stream following
so_far-first most old new frames frame stream following split appended = record {
  added = encoding_of frame;
  extended = appended;
  left = sym (ap encoding_of_frames split
      ∙ flat_map-cons encoding_of frame (left_frames most stream following));
}

-- a further frame was appended
pub so_far-more : (most : ℕ) (old now new whole : List ℕ) (stream : ℕ) (rest following : List ℕ)
    (frame : Frame) → IsSoFar most old now whole stream rest
    → left_frames most stream rest ≡ frame ∷ left_frames most stream following
    → new ≡ now ++ encoding_of frame → IsSoFar most old new whole stream following
so_far-more most old now new whole stream rest following frame so_far split appended = record {
  added = so_far.added ++ encoding_of frame;
  extended = appended ∙ ap (λ (line : List ℕ). line ++ encoding_of frame) so_far.extended
      ∙ append_assoc old so_far.added (encoding_of frame);
  left = append_assoc so_far.added (encoding_of frame)
      (encoding_of_frames (left_frames most stream following))
      ∙ ap (λ (line : List ℕ). so_far.added ++ line)
      (sym (ap encoding_of_frames split
      ∙ flat_map-cons encoding_of frame (left_frames most stream following))) ∙ so_far.left;
}

module _ (most : ℕ) (old now whole : List ℕ) (stream : ℕ) (rest : List ℕ) where
  -- nothing is left
  pub so_far-all : IsSoFar most old now whole stream rest → length rest ≡ 0 → now ≡ old ++ whole
  so_far-all so_far none =
      let all : so_far.added ≡ whole = sym (append-nil so_far.added)
      ∙ ap (λ (frames : List Frame). so_far.added ++ encoding_of_frames frames)
      (sym (left_frames-none most stream rest none)) ∙ so_far.left in
      so_far.extended ∙ ap (λ (line : List ℕ). old ++ line) all

  -- where all of the frames have capacity, the next one has
  pub so_far-room : (following : List ℕ) (frame : Frame) (room : ℕ)
      → IsSoFar most old now whole stream rest
      → left_frames most stream rest ≡ frame ∷ left_frames most stream following
      → length old + length whole ≤ room → length now + length (encoding_of frame) ≤ room
  so_far-room following frame room so_far split enough =
      let parts : length so_far.added + (length (encoding_of frame) + length (encoding_of_frames
      (left_frames most stream following))) ≡ length whole = ap (λ (n : ℕ). length so_far.added + n)
      (sym (length-append (encoding_of frame)
      (encoding_of_frames (left_frames most stream following)))) ∙ sym (length-append so_far.added
      (encoding_of frame ++ encoding_of_frames (left_frames most stream following)))
      ∙ ap (λ (line : List ℕ). length (so_far.added ++ line)) (sym (ap encoding_of_frames split
      ∙ flat_map-cons encoding_of frame (left_frames most stream following)))
      ∙ ap length so_far.left in
      omega (arith, enough, parts, ap length so_far.extended ∙ length-append old so_far.added)

-- where all of the frames have capacity, the first one has
pub first-room : (most preceding room : ℕ) (frames : List Frame) (frame : Frame) (stream : ℕ)
    (following : List ℕ) → frames ≡ frame ∷ left_frames most stream following
    → preceding + length (encoding_of_frames frames) ≤ room
    → preceding + length (encoding_of frame) ≤ room
first-room most preceding room frames frame stream following split enough =
    let parts : length (encoding_of_frames frames) ≡ length (encoding_of frame)
    + length (encoding_of_frames (left_frames most stream following)) =
    ap length (ap encoding_of_frames split
    ∙ flat_map-cons encoding_of frame (left_frames most stream following))
    ∙ length-append (encoding_of frame) (encoding_of_frames (left_frames most stream following)) in
    omega (arith, enough, parts)

-- octets that were split at the limit are cut
pub cut_at : (most at : ℕ) (octets piece following : List ℕ) (whole : Bool)
    → at ≡ min (length octets) most → piece ≡ take at octets → following ≡ drop at octets
    → whole ≡ (length following == 0) → IsCut most octets piece following whole
cut_at most at octets piece following whole is first rest ends = record {
  first = first ∙ ap (λ (n : ℕ). take n octets) is;
  rest = rest ∙ ap (λ (n : ℕ). drop n octets) is;
  ends = ends;
}

-- some octet is left
pub some_left : (count : ℕ) → false ≡ (count == 0) → 0 < count
some_left count empty = elim (cases_lt 0 count) [
  | inl some ↦ some
  | inr none ↦ absurd (false≢true (empty ∙ eq-eqb count 0 (omega arith)))
]
