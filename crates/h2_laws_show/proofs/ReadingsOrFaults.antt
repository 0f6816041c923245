-- Each stream has a reading, or a fault.
use Rattle.std.proofs.Common.{◌≡◌, ◌≢◌, ◌⊎◌, ℕ, zero, suc, ◌+◌, ◌<◌, ◌≤◌, Bool, List, [], ◌∷◌, ◌++◌}
use Rattle.std.proofs.Common.{length, take, drop, Option, None, Some, refl, ap, sym, ◌∙◌, inl, inr}
use Rattle.std.proofs.Common.{arith, subst, append_assoc, length-append, length-take, rules}
use Rattle.std.proofs.lemmas.List.{take-append-drop}
use Rattle.std.proofs.lemmas.Bool.{cases_lt, cases_eq}
use Rattle.h2_frame.specs.Heads.{head_of, head_fault}
use Rattle.h2_frame.specs.Frames.{Frame, payload_fault}
use Rattle.h2_frame.proofs.HeadLemmas.{form_fault-head_fault}
use Rattle.h2_wire.specs.declared.fault.WireFault.{WireFault}
use Rattle.h2_wire.specs.declared.fault.WireFault.TheVariants as faults
use Rattle.h2_wire.specs.Streams.{expected_preface, Limits, IsFrame, AreFrames, IsPartial, Frames}
use Rattle.h2_wire.specs.Streams.{EndsWithFault, WireFaultAt}
use Rattle.h2_wire.proofs.StepLemmas.{head_of-take}
use Rattle.h2_wire.proofs.ReadingLemmas.{nine_in_frame}
use Rattle.h2_laws_show.proofs.SoundFrames.{sound_octets_encode}
use Rattle.std.proofs.lemmas.Grind.{common_steps}

-- A fault is none, or some.
fault_cases : {A : Type 0} (known : Option A) → (known ≡ None)
    ⊎ ((fault : A) × (known ≡ Some fault))
fault_cases None = inl refl
fault_cases (Some fault) = inr (fault, refl)

-- The octets are a head, or a frame, that makes this fault where payloads have this limit.
abbrev IsWrong : ℕ → List ℕ → WireFault → Type 0
IsWrong limit last faults.BadPreface = ⊥
IsWrong limit last (faults.HeadFault head) =
    (length last ≡ 9) × (head_fault (head_of last) limit ≡ Some head)
IsWrong limit last (faults.PayloadFault code) =
    (length last ≡ 9 + (head_of last).length) × (head_fault (head_of last) limit ≡ None)
    × (payload_fault (head_of last) (drop 9 last) ≡ Some code)
IsWrong limit last faults.Memory = ⊥

-- The octets begin with a frame.
record BeginsWithFrame (limit : ℕ) (octets : List ℕ) : Type 0 where
  frame : Frame
  first : List ℕ
  others : List ℕ
  joined : octets ≡ first ++ others
  sound : IsFrame limit frame first

-- The octets begin with what is at fault.
record BeginsWithFault (limit : ℕ) (octets : List ℕ) : Type 0 where
  fault : WireFault
  last : List ℕ
  beyond : List ℕ
  joined : octets ≡ last ++ beyond
  wrong : IsWrong limit last fault

-- What octets begin with after a sound part.
abbrev Begins : ℕ → List ℕ → Type 0
Begins limit octets = IsPartial limit octets ⊎ (BeginsWithFrame limit octets
    ⊎ BeginsWithFault limit octets)

-- Octets after a head without fault, as many as it asks for, are a frame or have a payload at
-- fault.
complete_begins : (limit : ℕ) (octets : List ℕ)
    → head_fault (head_of octets) limit ≡ None → 9 + (head_of octets).length ≤ length octets
    → Begins limit octets
complete_begins limit octets sound enough =
    let first : List ℕ = take (9 + (head_of octets).length) octets in
    let counted : length (take (9 + (head_of octets).length) octets)
    ≡ 9 + (head_of octets).length = simp length-take (omega arith) in
    let same : head_of (take (9 + (head_of octets).length) octets) ≡ head_of octets =
    head_of-take octets (9 + (head_of octets).length) (omega arith) (omega arith) in
    let complete : length (take (9 + (head_of octets).length) octets)
    ≡ 9 + (head_of (take (9 + (head_of octets).length) octets)).length =
    counted ∙ ap (λ head. 9 + head.length) (sym same) in
    let head_sound : head_fault (head_of (take (9 + (head_of octets).length) octets)) limit ≡ None =
    ap (λ head. head_fault head limit) same ∙ sound in
    let split : octets ≡ take (9 + (head_of octets).length) octets
    ++ drop (9 + (head_of octets).length) octets =
    sym (take-append-drop (9 + (head_of octets).length) octets) in
    elim (fault_cases (payload_fault (head_of (take (9 + (head_of octets).length) octets))
    (drop 9 (take (9 + (head_of octets).length) octets)))) [
      | inl payload_sound ↦
          let (frame, encodes) = sound_octets_encode (take (9 + (head_of octets).length) octets)
          complete (form_fault-head_fault
          (head_of (take (9 + (head_of octets).length) octets)) limit head_sound) payload_sound in
          inr (inl (record {
            frame = frame;
            first = take (9 + (head_of octets).length) octets;
            others = drop (9 + (head_of octets).length) octets;
            joined = split;
            sound = record {
              encodes = encodes;
              sound_head = head_sound;
              sound_payload = payload_sound;
            };
          }))
      | inr (code, faulty) ↦
          inr (inr (record {
            fault = faults.PayloadFault code;
            last = take (9 + (head_of octets).length) octets;
            beyond = drop (9 + (head_of octets).length) octets;
            joined = split;
            wrong = (complete, head_sound, faulty);
          }))
    ]

-- Octets with a complete head are a partial frame, or begin with a frame or with what is at fault.
head_begins : (limit : ℕ) (octets : List ℕ) → 9 ≤ length octets → Begins limit octets
head_begins limit octets nine =
    let same : head_of (take 9 octets) ≡ head_of octets =
    head_of-take octets 9 (omega arith) nine in
    elim (fault_cases (head_fault (head_of octets) limit)) [
      | inl sound ↦ elim (cases_lt (length octets) (9 + (head_of octets).length)) [
        | inl few ↦ inl (λ enough. (sound, few))
        | inr enough ↦ complete_begins limit octets sound enough
      ]
      | inr (head, faulty) ↦
          inr (inr (record {
            fault = faults.HeadFault head;
            last = take 9 octets;
            beyond = drop 9 octets;
            joined = sym (take-append-drop 9 octets);
            wrong = (
              simp length-take (omega arith),
              ap (λ head. head_fault head limit) same ∙ faulty,
            );
          }))
    ]

-- Octets are a partial frame, or begin with a frame or with what is at fault.
begins : (limit : ℕ) (octets : List ℕ) → Begins limit octets
begins limit octets = grind (arith, common_steps, cases_lt, head_begins)

-- The octets are frames, and then a partial frame.
record BodyRead (limits : Limits) (preceding : ℕ) (octets : List ℕ) : Type 0 where
  frames : List Frame
  body : List ℕ
  unparsed : List ℕ
  joined : octets ≡ body ++ unparsed
  framed : AreFrames limits preceding frames body
  partial : IsPartial (limits (preceding + length body + 9)) unparsed

-- The octets are frames, then what is at fault, and then any.
record BodyFault (limits : Limits) (preceding : ℕ) (octets : List ℕ) : Type 0 where
  frames : List Frame
  body : List ℕ
  last : List ℕ
  beyond : List ℕ
  fault : WireFault
  joined : octets ≡ body ++ (last ++ beyond)
  framed : AreFrames limits preceding frames body
  wrong : IsWrong (limits (preceding + length body + 9)) last fault

-- The place after a frame and others is counted from either.
place_past : (preceding : ℕ) (first body : List ℕ)
    → preceding + length first + length body + 9 ≡ preceding + length (first ++ body) + 9
place_past preceding first body = omega (arith, length-append first body)

-- A frame, and then what is read.
read_after : (limits : Limits) (preceding : ℕ) (octets : List ℕ)
    → (begun : BeginsWithFrame (limits (preceding + 9)) octets)
    → BodyRead limits (preceding + length begun.first) begun.others
    → BodyRead limits preceding octets
read_after limits preceding octets begun read = record {
  frames = begun.frame ∷ read.frames;
  body = begun.first ++ read.body;
  unparsed = read.unparsed;
  joined = begun.joined ∙ ap (λ (line : List ℕ). begun.first ++ line) read.joined
      ∙ sym (append_assoc begun.first read.body read.unparsed);
  framed = (begun.first, read.body, refl, begun.sound, read.framed);
  partial = subst (λ (place : ℕ). IsPartial (limits place) read.unparsed)
      (place_past preceding begun.first read.body) read.partial;
}

-- A frame, and then what has a fault.
fault_after : (limits : Limits) (preceding : ℕ) (octets : List ℕ)
    → (begun : BeginsWithFrame (limits (preceding + 9)) octets)
    → BodyFault limits (preceding + length begun.first) begun.others
    → BodyFault limits preceding octets
fault_after limits preceding octets begun at = record {
  frames = begun.frame ∷ at.frames;
  body = begun.first ++ at.body;
  last = at.last;
  beyond = at.beyond;
  fault = at.fault;
  joined = begun.joined ∙ ap (λ (line : List ℕ). begun.first ++ line) at.joined
      ∙ sym (append_assoc begun.first at.body (at.last ++ at.beyond));
  framed = (begun.first, at.body, refl, begun.sound, at.framed);
  wrong = subst (λ (place : ℕ). IsWrong (limits place) at.last at.fault)
      (place_past preceding begun.first at.body) at.wrong;
}

-- The place of octets that nothing precedes.
first_place : (preceding : ℕ) → preceding + 9 ≡ preceding + length {A = ℕ} [] + 9
first_place preceding = omega arith

-- Octets, at most so many, after so many of the stream are frames and then a partial frame, or what
-- is at fault.
body_cases : (most : ℕ) (limits : Limits) (preceding : ℕ) (octets : List ℕ) → length octets ≤ most
    → BodyRead limits preceding octets ⊎ BodyFault limits preceding octets
body_cases zero limits preceding octets within = search rules
body_cases (suc most) limits preceding octets within =
    elim (begins (limits (preceding + 9)) octets) [
      | inl partial ↦
          inl (record {
            frames = [];
            body = [];
            unparsed = octets;
            joined = refl;
            framed = refl;
            partial = subst (λ (place : ℕ). IsPartial (limits place) octets)
                (first_place preceding) partial;
          })
      | inr (inl begun) ↦
          let nine = nine_in_frame (limits (preceding + 9)) begun.frame begun.first begun.sound in
          let counted = simp length-append at (ap length begun.joined) in
          let fewer : length begun.others ≤ most = omega (arith, nine, counted) in
          elim (body_cases most limits (preceding + length begun.first) begun.others fewer) [
            | inl read ↦ inl (read_after limits preceding octets begun read)
            | inr at ↦ inr (fault_after limits preceding octets begun at)
          ]
      | inr (inr at) ↦
          inr (record {
            frames = [];
            body = [];
            last = at.last;
            beyond = at.beyond;
            fault = at.fault;
            joined = at.joined;
            framed = refl;
            wrong = subst (λ (place : ℕ). IsWrong (limits place) at.last at.fault)
                (first_place preceding) at.wrong;
          })
    ]

-- The octets begin with those that are wanted.
record BeginsWith (wanted octets : List ℕ) : Type 0 where
  following : List ℕ
  joined : octets ≡ wanted ++ following

-- The octets are a prefix of those that are wanted.
record IsShorter (wanted octets : List ℕ) : Type 0 where
  missing : List ℕ
  opens : wanted ≡ octets ++ missing
  short : length octets < length wanted

-- The octets differ from those that are wanted, first at one of them.
record Differs (wanted octets : List ℕ) : Type 0 where
  prefix : List ℕ
  right : ℕ
  missing : List ℕ
  wrong : ℕ
  beyond : List ℕ
  opens : wanted ≡ prefix ++ right ∷ missing
  reads : octets ≡ prefix ++ wrong ∷ beyond
  differs : wrong ≢ right

-- What octets are beside those that are wanted.
abbrev Compares : List ℕ → List ℕ → Type 0
Compares wanted octets = BeginsWith wanted octets ⊎ (IsShorter wanted octets
    ⊎ Differs wanted octets)

-- One more octet that is wanted.
compares_more : (octet : ℕ) (wanted octets : List ℕ) → Compares wanted octets
    → Compares (octet ∷ wanted) (octet ∷ octets)
compares_more octet wanted octets (inl begins_with) = search rules
compares_more octet wanted octets (inr (inl shorter)) = search rules
compares_more octet wanted octets (inr (inr other)) =
    inr (inr (record {
      prefix = octet ∷ other.prefix;
      right = other.right;
      missing = other.missing;
      wrong = other.wrong;
      beyond = other.beyond;
      opens = ap (λ (line : List ℕ). octet ∷ line) other.opens;
      reads = ap (λ (line : List ℕ). octet ∷ line) other.reads;
      differs = other.differs;
    }))

-- Octets begin with those that are wanted, or are a prefix of them, or differ.
compares : (wanted octets : List ℕ) → Compares wanted octets
compares [] octets = inl (record { following = octets; joined = refl })
compares (right ∷ wanted) [] = search rules
compares (right ∷ wanted) (octet ∷ octets) = elim (cases_eq octet right) [
  | inl same ↦
      subst (λ (first : ℕ). Compares (first ∷ wanted) (octet ∷ octets)) same
      (compares_more octet wanted octets (compares wanted octets))
  | inr differs ↦
      inr (inr (record {
        prefix = [];
        right = right;
        missing = wanted;
        wrong = octet;
        beyond = octets;
        opens = refl;
        reads = refl;
        differs = differs;
      }))
]

-- A stream that begins with what makes a fault is at fault.
fault_at : (expects : Bool) (limits : Limits) (stream octets beyond : List ℕ) (frames : List Frame)
    (fault : WireFault) → stream ≡ octets ++ beyond
    → EndsWithFault expects limits frames octets fault
    → WireFaultAt expects limits stream frames (length octets) fault
fault_at expects limits stream octets beyond frames fault joined made = grind (arith, common_steps)

-- The stream has a reading, or a fault.
abbrev ReadOrFault : Bool → Limits → List ℕ → Type 0
ReadOrFault expects limits stream =
    ((frames : List Frame) × (unparsed : List ℕ) × Frames expects limits stream frames unparsed)
    ⊎ ((frames : List Frame) × (place : ℕ) × (fault : WireFault)
    × WireFaultAt expects limits stream frames place fault)

module _ (expects : Bool) (limits : Limits) where
  -- What ends with a frame, or a head, at fault after a sound part.
  wrong_ends : (frames : List Frame) (body last : List ℕ) (fault : WireFault)
      → AreFrames limits (length (expected_preface expects)) frames body
      → IsWrong (limits (length (expected_preface expects) + length body + 9)) last fault
      → EndsWithFault expects limits frames ((expected_preface expects ++ body) ++ last) fault
  wrong_ends frames body last faults.BadPreface framed wrong = absurd wrong
  wrong_ends frames body last (faults.HeadFault head) framed wrong = grind (arith, common_steps)
  wrong_ends frames body last (faults.PayloadFault code) framed wrong = grind (arith, common_steps)
  wrong_ends frames body last faults.Memory framed wrong = absurd wrong

  -- After the preface a stream is read, or has a fault.
  after_preface : (stream following : List ℕ) → stream ≡ expected_preface expects ++ following
      → ReadOrFault expects limits stream
  after_preface stream following joined =
      elim (body_cases (length following) limits (length (expected_preface expects)) following
      (omega arith)) [
        | inl read ↦ inl (
          read.frames,
          read.unparsed,
          inr (record {
            part = expected_preface expects ++ read.body;
            joined = joined
                ∙ ap (λ (line : List ℕ). expected_preface expects ++ line) read.joined
                ∙ sym (append_assoc (expected_preface expects) read.body read.unparsed);
            sound = record { body = read.body; opened = refl; framed = read.framed };
            partial = rw length-append read.partial;
          }),
        )
        | inr at ↦ inr (
          at.frames,
          length ((expected_preface expects ++ at.body) ++ at.last),
          at.fault,
          fault_at expects limits stream ((expected_preface expects ++ at.body) ++ at.last)
              at.beyond at.frames at.fault
              (joined ∙ ap (λ (line : List ℕ). expected_preface expects ++ line) at.joined
              ∙ sym (append_assoc (expected_preface expects) at.body (at.last ++ at.beyond))
              ∙ sym (append_assoc (expected_preface expects ++ at.body) at.last at.beyond))
              (wrong_ends at.frames at.body at.last at.fault at.framed at.wrong),
        )
      ]

  -- Each stream has a reading, or a fault.
  pub reading_or_fault_lem : (stream : List ℕ)
      → ((frames : List Frame) × (unparsed : List ℕ) × Frames expects limits stream frames unparsed)
      ⊎ ((frames : List Frame) × (place : ℕ) × (fault : WireFault) × WireFaultAt expects limits
      stream frames place fault)
  reading_or_fault_lem stream = elim (compares (expected_preface expects) stream) [
    | inl begins_with ↦ after_preface stream begins_with.following begins_with.joined
    | inr (inl shorter) ↦ inl (
      [],
      stream,
      inl (record {
        missing = shorter.missing;
        opens = shorter.opens;
        short = shorter.short;
        none = refl;
        all = refl;
      }),
    )
    | inr (inr other) ↦ inr (
      [],
      length (other.prefix ++ other.wrong ∷ []),
      faults.BadPreface,
      fault_at expects limits stream (other.prefix ++ other.wrong ∷ []) other.beyond []
          faults.BadPreface
          (other.reads ∙ sym (append_assoc other.prefix (other.wrong ∷ []) other.beyond))
          (record {
            none = refl;
            prefix = other.prefix;
            right = other.right;
            missing = other.missing;
            wrong = other.wrong;
            opens = other.opens;
            reads = refl;
            differs = other.differs;
          }),
    )
  ]
