-- A prefix of octets that are read without a fault is read as the first of their frames, and a
-- partial frame.
use Rattle.h2_laws_end.proofs.Names.{◌≡◌, ◌⊎◌, ℕ, ◌+◌, Bool, List, [], ◌∷◌, ◌++◌, length, refl, sym}
use Rattle.h2_laws_end.proofs.Names.{ap, ◌∙◌, arith, inl, inr, append_assoc, length-append, head_of}
use Rattle.h2_laws_end.proofs.Names.{Frame, expected_preface, Limits, Frames, head_of-append}
use Rattle.h2_laws_end.proofs.Names.{IsFrame, AreFrames, IsPartial}
use Rattle.h2_laws_end.proofs.Overlaps.{overlap}

-- A prefix of a partial frame is partial.
partial_prefix : (limit : ℕ) (octets more : List ℕ) → IsPartial limit (octets ++ more)
    → IsPartial limit octets
partial_prefix limit octets more partial nine =
    let counted = length-append octets more in
    let whole = partial (omega (arith, counted, nine)) in
    let same : head_of (octets ++ more) ≡ head_of octets = head_of-append octets more nine in
    let sound = rw same at whole.0 in
    let less = rw same at whole.1 in
    (sound, omega (arith, counted, less))

-- A frame without its last octets is partial.
frame_prefix : (limit : ℕ) (frame : Frame) (octets : List ℕ) (next : ℕ) (more : List ℕ)
    → IsFrame limit frame (octets ++ next ∷ more) → IsPartial limit octets
frame_prefix limit frame octets next more whole nine =
    let counted = length-append octets (next ∷ more) in
    let same : head_of (octets ++ next ∷ more) ≡ head_of octets = head_of-append _ _ nine in
    let sound = rw same at whole.sound_head in
    let complete = rw same at whole.encodes.complete in
    (sound, omega (arith, counted, complete))

-- A prefix is read as the first of the frames; where that's all of them, what is unparsed
-- continues, after the preface.
pub record BodyPrefix (limits : Limits) (preceding : ℕ) (frames : List Frame)
    (unparsed octets more : List ℕ) : Type 0 where
  pub first : List Frame
  pub later : List Frame
  pub part : List ℕ
  pub left : List ℕ
  pub frames_are : frames ≡ first ++ later
  pub octets_are : octets ≡ part ++ left
  pub framed : AreFrames limits preceding first part
  pub partial : IsPartial (limits (preceding + length part + 9)) left
  pub continues : later ≡ [] → unparsed ≡ left ++ more

-- No frame is complete in the prefix.
none_complete : (limits : Limits) (preceding : ℕ) (frame : Frame) (frames : List Frame)
    (octets whole unparsed more : List ℕ) (next : ℕ) (between : List ℕ)
    → IsFrame (limits (preceding + 9)) frame whole → whole ≡ octets ++ next ∷ between
    → BodyPrefix limits preceding (frame ∷ frames) unparsed octets more
none_complete limits preceding frame frames octets whole unparsed more next between sound split =
    let at : preceding + 9 ≡ preceding + length {A = ℕ} [] + 9 = omega arith in
    record {
      first = [];
      later = frame ∷ frames;
      part = [];
      left = octets;
      frames_are = refl;
      octets_are = refl;
      framed = refl;
      partial = rw at at (frame_prefix _ _ _ _ between (rw split at sound));
      continues = λ none. cc;
    }

-- One more frame before those of a prefix.
one_complete : (limits : Limits) (preceding : ℕ) (frame : Frame) (frames : List Frame)
    (octets whole unparsed more between : List ℕ)
    → IsFrame (limits (preceding + 9)) frame whole → octets ≡ whole ++ between
    → BodyPrefix limits (preceding + length whole) frames unparsed between more
    → BodyPrefix limits preceding (frame ∷ frames) unparsed octets more
one_complete limits preceding frame frames octets whole unparsed more between sound split others =
    let at : preceding + length whole + length others.part + 9
    ≡ preceding + length (whole ++ others.part) + 9 = rw length-append (omega arith) in
    record {
      first = frame ∷ others.first;
      later = others.later;
      part = whole ++ others.part;
      left = others.left;
      frames_are = ap (λ (line : List Frame). frame ∷ line) others.frames_are;
      octets_are = split ∙ ap (λ (line : List ℕ). whole ++ line) others.octets_are
          ∙ sym (append_assoc whole others.part others.left);
      framed = (whole, others.part, refl, sound, others.framed);
      partial = rw at at others.partial;
      continues = others.continues;
    }

-- A prefix of frames and a partial frame.
body_prefix : (limits : Limits) (preceding : ℕ) (frames : List Frame)
    (body unparsed octets more : List ℕ) → AreFrames limits preceding frames body
    → IsPartial (limits (preceding + length body + 9)) unparsed
    → octets ++ more ≡ body ++ unparsed
    → BodyPrefix limits preceding frames unparsed octets more
body_prefix limits preceding [] body unparsed octets more none partial line =
    let line_now : octets ++ more ≡ unparsed = line ∙ rw none refl in
    record {
      first = [];
      later = [];
      part = [];
      left = octets;
      frames_are = refl;
      octets_are = refl;
      framed = refl;
      partial = partial_prefix _ octets more (rw (none, ← line_now) at partial);
      continues = λ same. sym line_now;
    }
body_prefix limits preceding (frame ∷ frames) body unparsed octets more
    (whole, others, split, sound, framed) partial line =
    let line_now : octets ++ more ≡ whole ++ (others ++ unparsed) = line ∙ rw split
    (append_assoc whole others unparsed) in
    elim (overlap octets more whole (others ++ unparsed) line_now) [
      | inl (between, is, follows) ↦
          let at : preceding + length body + 9 ≡ preceding + length whole + length others + 9 = rw
          (split, length-append) (omega arith) in
          one_complete limits preceding frame frames octets whole unparsed more between sound is
          (body_prefix limits (preceding + length whole) frames others unparsed between more framed
          (rw at at partial) (sym follows))
      | inr (next, between, is, follows) ↦ none_complete _ _ _ _ _ whole _ _ next between sound is
    ]

-- A prefix of a stream, read.
pub record ReadPrefix (expects : Bool) (limits : Limits) (frames : List Frame)
    (unparsed octets more : List ℕ) : Type 0 where
  pub first : List Frame
  pub later : List Frame
  pub left : List ℕ
  pub frames_are : frames ≡ first ++ later
  pub read : Frames expects limits octets first left
  pub continues : later ≡ [] → (first ≡ []) ⊎ (unparsed ≡ left ++ more)

module _ (expects : Bool) (limits : Limits) (frames : List Frame)
    (unparsed octets more : List ℕ) where
  -- The prefix is less than the preface.
  inside : (next : ℕ) (missing : List ℕ) → expected_preface expects ≡ octets ++ next ∷ missing
      → ReadPrefix expects limits frames unparsed octets more
  inside next missing opens =
      let counted = simp length-append at (ap length opens) in
      record {
        first = [];
        later = frames;
        left = octets;
        frames_are = refl;
        read = inl (record {
          missing = next ∷ missing;
          opens = opens;
          short = omega (arith, counted);
          none = refl;
          all = refl;
        });
        continues = λ none. inl refl;
      }

  -- A prefix that the preface begins.
  after : (between : List ℕ) → octets ≡ expected_preface expects ++ between
      → BodyPrefix limits (length (expected_preface expects)) frames unparsed between more
      → ReadPrefix expects limits frames unparsed octets more
  after between opens body =
      let at : length (expected_preface expects) + length body.part + 9
      ≡ length (expected_preface expects ++ body.part) + 9 = rw length-append refl in
      record {
        first = body.first;
        later = body.later;
        left = body.left;
        frames_are = body.frames_are;
        read = inr (record {
          part = expected_preface expects ++ body.part;
          joined = opens ∙ ap (λ (line : List ℕ). expected_preface expects ++ line) body.octets_are
              ∙ sym (append_assoc (expected_preface expects) body.part body.left);
          sound = record { body = body.part; opened = refl; framed = body.framed };
          partial = rw at at body.partial;
        });
        continues = λ none. inr (body.continues none);
      }

  -- A prefix of a stream.
  pub prefix_read : Frames expects limits (octets ++ more) frames unparsed
      → ReadPrefix expects limits frames unparsed octets more
  prefix_read (inl short) =
      let counted = simp length-append at (ap length short.opens) in
      let few = simp length-append at short.short in
      record {
        first = [];
        later = frames;
        left = octets;
        frames_are = refl;
        read = inl (record {
          missing = more ++ short.missing;
          opens = short.opens ∙ append_assoc octets more short.missing;
          short = omega (arith, few);
          none = refl;
          all = refl;
        });
        continues = λ none. inl refl;
      }
  prefix_read (inr past) =
      let preface = expected_preface expects in
      let body = past.sound.body in
      let line : octets ++ more ≡ preface ++ (body ++ unparsed) =
      past.joined ∙ ap (λ (part : List ℕ). part ++ unparsed) past.sound.opened
      ∙ append_assoc preface body unparsed in
      let at : length past.part + 9 ≡ length preface + length body + 9 =
      ap (λ (part : List ℕ). length part + 9) past.sound.opened ∙ rw length-append refl in
      elim (overlap octets more preface (body ++ unparsed) line) [
        | inl (between, is, follows) ↦ after between is
            (body_prefix limits (length preface) frames body unparsed between more past.sound.framed
            (rw at at past.partial) (sym follows))
        | inr (next, between, is, follows) ↦ inside next between is
      ]
