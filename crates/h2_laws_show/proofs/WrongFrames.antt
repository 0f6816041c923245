-- The first frame of a stream with an error of its blocks is one, and so is its place.
use Rattle.std.proofs.Common.{◌≡◌, ◌⊎◌, ℕ, ◌+◌, ◌-◌, ◌≤◌, Bool, List, [], ◌∷◌, ◌++◌, length, take}
use Rattle.std.proofs.Common.{drop, Option, refl, ap, sym, ◌∙◌, inl, inr, subst, arith, append-nil}
use Rattle.std.proofs.Common.{length-append, length-take}
use Rattle.std.proofs.Math.Seq.{take-append_seam, take-add}
use Rattle.std.proofs.lemmas.Bool.{cases_lt}
use Rattle.std.proofs.lemmas.List.{take-append-drop}
use Rattle.hpack.specs.Tables.{Entries}
use Rattle.h2_frame.specs.declared.code.Code.{Code}
use Rattle.h2_frame.specs.Frames.{Frame}
use Rattle.h2_wire.specs.Streams.{Limits, IsAfterPreface, Frames}
use Rattle.h2_block.specs.Grouping.{Begun}
use Rattle.h2_show.specs.Blocks.{FramesDecode, EndsWithBlockError}
use Rattle.h2_laws_show.proofs.LongerStreams.{longer_reading, one_part}
use Rattle.h2_laws_show.proofs.BlockErrors.{error_stops}

-- where lists that are joined are none, the first is
none_first : (frames following : List Frame) → [] ≡ frames ++ following → frames ≡ []
none_first [] following none = refl
none_first (frame ∷ frames) following none = (cc)

-- frames that precede the last are one
pub one_without_last : (frames others : List Frame) (last end : Frame)
    → frames ++ last ∷ [] ≡ others ++ end ∷ [] → frames ≡ others
one_without_last frames others last end line =
    let long : length frames ≡ length others =
    omega (arith, simp length-append at (ap length line)) in
    sym (take-append_seam frames (last ∷ [])) ∙ ap (take (length frames)) line
    ∙ ap (λ (n : ℕ). take n (others ++ end ∷ [])) long ∙ take-append_seam others (end ∷ [])

-- Frames that begin others are all of them, or begin them without the last.
without_last : (frames wrong following : List Frame) (last : Frame)
    → frames ++ last ∷ [] ≡ wrong ++ following
    → (wrong ≡ frames ++ last ∷ []) ⊎ ((more : List Frame) × (frames ≡ wrong ++ more))
without_last frames [] following last line = inr (frames, refl)
without_last [] (first ∷ wrong) following last line =
    let same : last ≡ first = cc in
    let nothing : wrong ≡ [] = none_first wrong following (cc) in
    inl (cc)
without_last (frame ∷ frames) (first ∷ wrong) following last line =
    let same : frame ≡ first = cc in
    let tail : frames ++ last ∷ [] ≡ wrong ++ following = cc in
    elim (without_last frames wrong following last tail) [
      | inl all ↦ inl (ap (λ (one : Frame). one ∷ wrong) (sym same)
          ∙ ap (λ (line : List Frame). frame ∷ line) all)
      | inr (more, begins) ↦
          inr (
            more,
            ap (λ (one : Frame). one ∷ frames) same
                ∙ ap (λ (line : List Frame). first ∷ line) begins,
          )
    ]

-- No frame with an error of its blocks precedes frames that decode, and one more.
earlier_frame : (expects : Bool) (limits : Limits) (stream : List ℕ) (wrong frames : List Frame)
    (last : Frame) (begun : Option Begun) (table : Entries) (place other : ℕ) (code : Code)
    → place ≤ other → Frames expects limits (take place stream) wrong []
    → Frames expects limits (take other stream) (frames ++ last ∷ []) []
    → EndsWithBlockError wrong code → FramesDecode frames begun table
    → wrong ≡ frames ++ last ∷ []
earlier_frame expects limits stream wrong frames last begun table place other code first reading
    later error decoded =
    let far : other ≡ place + (other - place) = omega arith in
    let octets : take other stream ≡ take place stream
    ++ take (other - place) (drop place stream) =
    ap (λ (n : ℕ). take n stream) far ∙ take-add place (other - place) stream in
    let (following, same) = longer_reading expects limits (take place stream)
    (take (other - place) (drop place stream)) wrong (frames ++ last ∷ []) [] [] reading
    (subst (λ (line : List ℕ). Frames expects limits line (frames ++ last ∷ []) []) octets later)
    in
    elim (without_last frames wrong following last same) [
      | inl all ↦ all
      | inr (more, begins) ↦
          absurd (error_stops _ more _ _ _ error
          (subst (λ (line : List Frame). FramesDecode line begun table) begins decoded))
    ]

module _ (expects : Bool) (limits : Limits) (stream : List ℕ) (frames : List Frame) where
  -- The first frame of a stream with an error of its blocks is one.
  pub one_wrong_frame : (others : List Frame) (last end : Frame)
      (begun left : Option Begun) {table after : Entries} (place other : ℕ) (code another : Code)
      → Frames expects limits (take place stream) (frames ++ last ∷ []) []
      → Frames expects limits (take other stream) (others ++ end ∷ []) []
      → EndsWithBlockError (frames ++ last ∷ []) code
      → EndsWithBlockError (others ++ end ∷ []) another → FramesDecode frames begun table
      → FramesDecode others left after → frames ++ last ∷ [] ≡ others ++ end ∷ []
  one_wrong_frame others last end begun left {table} {after} place other
      code another reading later error wrong decoded again = elim (cases_lt place other) [
        | inl less ↦
            earlier_frame _ _ _ _ _ _ _ _ place other _ (omega arith) reading later error again
        | inr more ↦ sym (earlier_frame _ _ _ _ _ _ _ _ _ _ _ more later reading wrong decoded)
      ]

  -- A stream read up to two places as the same frames is read up to one place.
  one_place_after : (place other : ℕ) → place ≤ length stream → other ≤ length stream
      → IsAfterPreface expects limits (take place stream) frames []
      → IsAfterPreface expects limits (take other stream) frames [] → place ≡ other
  one_place_after place other within inside past again =
      let first : past.part ≡ take place stream = sym (append-nil past.part) ∙ sym past.joined in
      let second : again.part ≡ take other stream = sym (append-nil again.part) ∙ sym again.joined
      in
      let line : past.part ++ drop place stream ≡ again.part ++ drop other stream =
      ap (λ (part : List ℕ). part ++ drop place stream) first ∙ take-append-drop place stream
      ∙ sym (take-append-drop other stream)
      ∙ ap (λ (part : List ℕ). part ++ drop other stream) (sym second) in
      let same = one_part _ _ _ _ _ _ _ past.sound again.sound line in
      let octets : take place stream ≡ take other stream = sym first ∙ same ∙ second in
      omega (arith, ap length octets, length-take place stream, length-take other stream)

  -- A stream has one place at which it is some frames.
  pub one_place : (place other : ℕ) → (frames ≡ [] → ⊥) → place ≤ length stream
      → other ≤ length stream → Frames expects limits (take place stream) frames []
      → Frames expects limits (take other stream) frames [] → place ≡ other
  one_place place other some within inside (inl short) later = absurd (some short.none)
  one_place place other some within inside (inr past) (inl short) = absurd (some short.none)
  one_place place other some within inside (inr past) (inr again) =
      one_place_after place other within inside past again
