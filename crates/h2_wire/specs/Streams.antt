-- A stream of frames as its octets: what has been read of it, and where it is at fault (RFC 9113,
-- sections 3.4 and 4.1).
-- contract: h2_wire::Cutter::cut
use Rattle.std.specs.Prelude.{◌≡◌, ◌≢◌, ◌⊎◌, ℕ, ◌+◌, ◌<◌, ◌≤◌, Bool, if◌then◌else◌, List, [], ◌∷◌}
use Rattle.std.specs.Prelude.{◌++◌, length, take, drop, None, Some}
use Rattle.h2_frame.specs.declared.code.Code.{Code}
use Rattle.h2_frame.specs.declared.head_faults.HeadFault.{HeadFault}
use Rattle.h2_frame.specs.Heads.{head_of, head_fault}
use Rattle.h2_frame.specs.Frames.{Frame, Encodes, payload_fault}
use Rattle.h2_wire.specs.declared.fault.WireFault.{WireFault}
use Rattle.h2_wire.specs.declared.fault.WireFault.TheVariants as faults

-- The octets with which a client begins: PRI * HTTP/2.0, two line ends, SM, and two line ends
-- (section 3.4).
-- rule: 3.4 A client sends the 24 octets of the preface and then frames
unfoldable pub preface : List ℕ
preface =
    0x50 ∷ 0x52 ∷ 0x49 ∷ 0x20 ∷ 0x2a ∷ 0x20 ∷ 0x48 ∷ 0x54 ∷ 0x54 ∷ 0x50 ∷ 0x2f ∷ 0x32 ∷ 0x2e ∷ 0x30
    ∷ 0x0d ∷ 0x0a ∷ 0x0d ∷ 0x0a ∷
    0x53 ∷ 0x4d ∷ 0x0d ∷ 0x0a ∷ 0x0d ∷ 0x0a ∷ []

-- The octets begin with the preface, all of it.
pub record BeginsWithPreface (octets : List ℕ) : Type 0 where
  pub following : List ℕ
  pub joined : octets ≡ preface ++ following

-- The octets begin with the preface, and more follow it.
-- rule: 3.4 (own) No octet of the preface is stored, so memory is not refused in it
abbrev pub GoesPastPreface : List ℕ → Type 0
GoesPastPreface octets = BeginsWithPreface octets × (length preface < length octets)

-- what precedes the first frame: the preface, where one is expected
-- rule: 3.4 A server sends frames at once, without a preface
unfoldable pub expected_preface : Bool → List ℕ
expected_preface expects = if expects then preface else []

-- The limit of payloads that is in force as each octet of the stream is used, by the octet's place,
-- counted from 1.
abbrev pub Limits : Type 0
Limits = ℕ → ℕ

-- The octets are the frame, without fault, where its payload may have as many octets as the limit
-- says.
pub record IsFrame (limit : ℕ) (frame : Frame) (octets : List ℕ) : Type 0 where
  pub encodes : Encodes frame octets
  pub sound_head : head_fault (head_of octets) limit ≡ None
  pub sound_payload : payload_fault (head_of octets) (drop 9 octets) ≡ None

-- The octets, after so many octets of the stream, are frames without fault, joined. The limit of
-- each is the one in force at the ninth octet of its head.
-- rule: 4.1 Each frame is answered once, in the call that uses its last octet
abbrev pub AreFrames : Limits → ℕ → List Frame → List ℕ → Type 0
AreFrames limits preceding [] octets = octets ≡ []
AreFrames limits preceding (frame ∷ frames) octets =
    (first others : List ℕ) × (octets ≡ first ++ others)
    × IsFrame (limits (preceding + 9)) frame first
    × AreFrames limits (preceding + length first) frames others

-- The octets, from the stream's first on, are what precedes the first frame and then the frames.
pub record IsSound (expects : Bool) (limits : Limits) (frames : List Frame)
    (octets : List ℕ) : Type 0 where
  pub body : List ℕ
  pub opened : octets ≡ expected_preface expects ++ body
  pub framed : AreFrames limits (length (expected_preface expects)) frames body

-- A partial frame, no prefix of which is a frame, or a head or a frame at fault: it has fewer than
-- nine octets, or a head without fault and fewer octets than that head asks for.
-- rule: 4.1 Unparsed octets hold no complete frame and no fault
-- rule: 10.5 (own) What an end holds of a stream is bounded
abbrev pub IsPartial : ℕ → List ℕ → Type 0
IsPartial limit unparsed = 9 ≤ length unparsed → (head_fault (head_of unparsed) limit ≡ None)
    × (length unparsed < 9 + (head_of unparsed).length)

-- Of the stream less than the preface has come.
-- rule: 3.4 A client sends the 24 octets of the preface and then frames
pub record IsInsidePreface (expects : Bool) (stream : List ℕ) (frames : List Frame)
    (unparsed : List ℕ) : Type 0 where
  pub missing : List ℕ
  pub opens : expected_preface expects ≡ stream ++ missing
  pub short : length stream < length (expected_preface expects)
  pub none : frames ≡ []
  pub all : unparsed ≡ stream

-- The stream is a sound part with the frames, and then a partial frame.
pub record IsAfterPreface (expects : Bool) (limits : Limits) (stream : List ℕ) (frames : List Frame)
    (unparsed : List ℕ) : Type 0 where
  pub part : List ℕ
  pub joined : stream ≡ part ++ unparsed
  pub sound : IsSound expects limits frames part
  pub partial : IsPartial (limits (length part + 9)) unparsed

-- So far the stream is the frames, and then octets that are unparsed.
-- rule: 4.1 The frames of a stream do not depend on the pieces of its octets
-- rule (law): 5.4.1 Each stream of octets has a reading or a fault; prefixes agree
abbrev pub Frames : Bool → Limits → List ℕ → List Frame → List ℕ → Type 0
Frames expects limits stream frames unparsed = IsInsidePreface expects stream frames unparsed
    ⊎ IsAfterPreface expects limits stream frames unparsed

-- The octets are a prefix of the preface, but for the last one; so no frame precedes it.
-- rule: 3.4 The first octet that differs from the preface is PROTOCOL_ERROR, there
pub record IsWrongPreface (expects : Bool) (frames : List Frame) (octets : List ℕ) : Type 0 where
  pub none : frames ≡ []
  pub prefix : List ℕ
  pub right : ℕ
  pub missing : List ℕ
  pub wrong : ℕ
  pub opens : expected_preface expects ≡ prefix ++ right ∷ missing
  pub reads : octets ≡ prefix ++ wrong ∷ []
  pub differs : wrong ≢ right

-- The octets are a sound part with the frames, and then the nine octets of a head with this fault.
-- rule: 4.2 A fault of a head is known at its ninth octet, whatever memory is
pub record IsWrongHead (expects : Bool) (limits : Limits) (frames : List Frame) (octets : List ℕ)
    (fault : HeadFault) : Type 0 where
  pub part : List ℕ
  pub last : List ℕ
  pub joined : octets ≡ part ++ last
  pub sound : IsSound expects limits frames part
  pub nine : length last ≡ 9
  pub faulty : head_fault (head_of last) (limits (length part + 9)) ≡ Some fault

-- The octets are a sound part with the frames, and then a frame with a sound head and this fault of
-- its payload.
-- rule: 6.1 A fault of a payload is known at its last octet
pub record IsWrongPayload (expects : Bool) (limits : Limits) (frames : List Frame) (octets : List ℕ)
    (code : Code) : Type 0 where
  pub part : List ℕ
  pub last : List ℕ
  pub joined : octets ≡ part ++ last
  pub sound : IsSound expects limits frames part
  pub complete : length last ≡ 9 + (head_of last).length
  pub sound_head : head_fault (head_of last) (limits (length part + 9)) ≡ None
  pub faulty : payload_fault (head_of last) (drop 9 last) ≡ Some code

-- The octets make the fault right after the frames, with the last of them. Lack of memory is no
-- fault of the stream.
-- rule: 4.2 A fault of a head is known at its ninth octet, whatever memory is
abbrev pub EndsWithFault : Bool → Limits → List Frame → List ℕ → WireFault → Type 0
EndsWithFault expects limits frames octets faults.BadPreface = IsWrongPreface expects frames octets
EndsWithFault expects limits frames octets (faults.HeadFault fault) =
    IsWrongHead expects limits frames octets fault
EndsWithFault expects limits frames octets (faults.PayloadFault code) =
    IsWrongPayload expects limits frames octets code
EndsWithFault expects limits frames octets faults.Memory = ⊥

-- The stream is at fault right after the frames, known at its octet of this place, counted from 1.
-- rule: 4.2 A fault of a head is known at its ninth octet, whatever memory is
-- rule (law): 5.4.1 A stream of octets has one fault at most, at one place
-- rule (law): 5.4.1 Each stream of octets has a reading or a fault; prefixes agree
pub record WireFaultAt (expects : Bool) (limits : Limits) (stream : List ℕ) (frames : List Frame)
    (place : ℕ) (fault : WireFault) : Type 0 where
  pub within : place ≤ length stream
  pub made : EndsWithFault expects limits frames (take place stream) fault
