-- Streams with other limits of payloads.
use Rattle.h2_wire.proofs.Names.{◌≡◌, ℕ, ◌+◌, ◌<◌, ◌≤◌, Bool, true, false, List, [], ◌∷◌, length}
use Rattle.h2_wire.proofs.Names.{None, refl, ap, ◌∙◌, inl, inr, arith, length-append, le-leb, Head}
use Rattle.h2_wire.proofs.Names.{head_of, Frame, form_fault-head_fault, length-head_fault, Phase}
use Rattle.h2_wire.proofs.Names.{Limits, AreFrames, Frames, IsInsidePreface, CutterState, FitsPhase}
use Rattle.h2_frame.specs.Heads.{head_fault}
use Rattle.h2_wire.specs.Streams.{preface, expected_preface}
use Rattle.std.proofs.Common.{nat_le, max, if◌then◌else◌}
use Rattle.std.proofs.lemmas.Bool.{cases_lt, lt-leb}
use Rattle.std.proofs.lemmas.Bool.Decides.{nat_tests}
use Rattle.h2_wire.specs.Cutter.{CutterLimited}
use Rattle.h2_wire.proofs.ReadingLemmas.{nine_in_frame}
use Rattle.h2_wire.specs.declared.buffer.Phase.TheVariants as phases

-- A head without fault has none by a greater limit.
wider_head : (head : Head) (limit other : ℕ) → limit ≤ other → head_fault head limit ≡ None
    → head_fault head other ≡ None
unfolding head_fault
wider_head head limit other less sound =
    let form = form_fault-head_fault head limit sound in
    let within = length-head_fault head limit sound in
    grind (arith, nat_tests, form, within, less)

-- Frames up to an octet are frames with limits that are no less up to there.
AreFrames-wider : (limits others : Limits) (preceding most : ℕ) (frames : List Frame)
    (octets : List ℕ) → ((place : ℕ) → place ≤ most → limits place ≤ others place)
    → preceding + length octets ≤ most → AreFrames limits preceding frames octets
    → AreFrames others preceding frames octets
AreFrames-wider limits others preceding most [] octets wider within none = none
AreFrames-wider limits others preceding most (frame ∷ frames) octets wider within
    (first, following, joined, sound, framed) =
    let nine = nine_in_frame (limits (preceding + 9)) frame first sound in
    let counted : length octets ≡ length first + length following =
    ap length joined ∙ length-append first following in (
      first,
      following,
      joined,
      record {
        encodes = sound.encodes;
        sound_head =
            wider_head (head_of first) (limits (preceding + 9)) (others (preceding + 9))
            (wider (preceding + 9) (omega (arith, nine, counted, within))) sound.sound_head;
        sound_payload = sound.sound_payload;
      },
      AreFrames-wider limits others (preceding + length first) most frames following wider
          (omega (arith, counted, within)) framed,
    )

-- What is read of a stream is read of it with limits that are no less for its octets.
pub read_wider : (expects : Bool) (limits others : Limits) (stream : List ℕ) (frames : List Frame)
    (unparsed : List ℕ) → ((place : ℕ) → place ≤ length stream → limits place ≤ others place)
    → Frames expects limits stream frames unparsed → Frames expects others stream frames unparsed
read_wider expects limits others stream frames unparsed wider (inl short) = inl short
read_wider expects limits others stream frames unparsed wider (inr past) =
    let counted : length stream ≡ length past.part + length unparsed =
    ap length past.joined ∙ length-append past.part unparsed in
    let parts : length past.part ≡ length (expected_preface expects) + length past.sound.body =
    ap length past.sound.opened ∙ length-append (expected_preface expects) past.sound.body in
    inr (record {
      part = past.part;
      joined = past.joined;
      sound = record {
        body = past.sound.body;
        opened = past.sound.opened;
        framed =
            AreFrames-wider limits others (length (expected_preface expects)) (length stream) frames
            past.sound.body wider (omega (arith, counted, parts)) past.sound.framed;
      };
      partial = λ nine.
          let (sound, short) = past.partial nine in (
            wider_head (head_of unparsed) (limits (length past.part + 9))
                (others (length past.part + 9))
                (wider (length past.part + 9) (omega (arith, nine, counted))) sound,
            short,
          );
    })

-- A cutter whose limit was set represents the same stream, with this limit ahead.
pub is_limited : (old : CutterState) (limit : ℕ)
    → CutterLimited old limit (record old { limit = limit; greatest = max old.greatest limit })
is_limited old limit = record {
  same = refl;
  represents = λ expects limits stream frames before. record {
    sound = before.sound;
    split =
        read_wider expects limits
        (λ place. if nat_le place (length stream) then limits place else limit) stream frames
        old.unparsed
        (λ place within. rw (le-leb place (length stream) within) (omega arith)) before.split;
    in_preface = before.in_preface;
    place = before.place;
    ahead = λ place later. rw (lt-leb place (length stream) later) refl;
  };
}

-- Octets that fit a phase fit it with a greater limit.
pub fits_greater : (greatest other : ℕ) (phase : Phase) (octets : List ℕ) → greatest ≤ other
    → FitsPhase greatest phase octets → FitsPhase other phase octets
fits_greater greatest other (phases.Preface matched) octets less fits = fits
fits_greater greatest other phases.Head octets less fits = fits
fits_greater greatest other (phases.Payload head) octets less fits = record {
  nine = fits.nine;
  is_head = fits.is_head;
  bounded = fits.bounded;
  form = fits.form;
  within = omega (arith, fits.within, less);
  short = fits.short;
}
fits_greater greatest other phases.Lent octets less fits = fits
fits_greater greatest other (phases.Failed fault) octets less fits = fits

-- inside a preface fewer than 24 octets are unparsed
few_inside : (expects : Bool) (stream : List ℕ) (frames : List Frame) (unparsed : List ℕ)
    → IsInsidePreface expects stream frames unparsed → length unparsed < 24
unfolding expected_preface preface
few_inside true stream frames unparsed short = rw short.all short.short
few_inside false stream frames unparsed short = absurd (omega (arith, short.short))

-- Octets that are unparsed are within each bound of the limits, but for those of a preface.
pub unparsed_within : (expects : Bool) (limits : Limits) (stream : List ℕ) (frames : List Frame)
    (unparsed : List ℕ) (most : ℕ) → 15 ≤ most → ((place : ℕ) → limits place ≤ most)
    → Frames expects limits stream frames unparsed → length unparsed ≤ 9 + most
unparsed_within expects limits stream frames unparsed most enough within (inl short) =
    omega (arith, few_inside expects stream frames unparsed short, enough)
unparsed_within expects limits stream frames unparsed most enough within (inr past) =
    elim (cases_lt (length unparsed) 9) [
      | inl few ↦ omega (arith, few)
      | inr nine ↦
          let (sound, short) = past.partial nine in
          omega (
            arith,
            short,
            length-head_fault (head_of unparsed) (limits (length past.part + 9)) sound,
            within (length past.part + 9),
          )
    ]
