-- What a cutter is between calls, and what each call makes of it, whatever the stream has been so
-- far.
-- contract: h2_wire::Cutter::cut
use Rattle.std.specs.Prelude.{◌≡◌, ℕ, ◌+◌, ◌-◌, ◌^◌, ◌<◌, min, max, nat_lt, nat_le, ◌&&◌, Bool}
use Rattle.std.specs.Prelude.{List, [], ◌∷◌}
use Rattle.std.specs.Prelude.{◌++◌, length, take, drop, Option, None, Some, MatchOption, IsSome}
use Rattle.std.specs.Prelude.{Result, Ok, Err, true, false, ◌≤◌, if◌then◌else◌}
use Rattle.h2_frame.specs.declared.head_faults.HeadFault.{HeadFault}
use Rattle.h2_frame.specs.Heads.{head_of, form_fault, head_fault}
use Rattle.h2_frame.specs.Frames.{Frame, Data, Encodes, frame_of, payload_fault, pad_of}
use Rattle.h2_wire.specs.declared.fault.WireFault.{WireFault}
use Rattle.h2_wire.specs.declared.fault.WireFault.TheVariants as faults
use Rattle.h2_wire.specs.declared.cut.Source.{Source}
use Rattle.h2_wire.specs.declared.cut.Source.TheVariants as sources
use Rattle.h2_wire.specs.declared.cut.Complete.{Complete}
use Rattle.h2_wire.specs.declared.cut.Advance.{Advance}
use Rattle.h2_wire.specs.declared.cut.Cut.{Cut}
use Rattle.h2_frame.specs.declared.frame.FrameRef.{FrameRef}
use Rattle.h2_wire.specs.Faults.{is_bad_preface}
use Rattle.h2_wire.specs.Streams.{Limits, Frames, WireFaultAt, preface, BeginsWithPreface}

-- a cutter between calls
pub record CutterState : Type 0 where
  -- the limit of payloads for heads to come
  pub limit : ℕ
  -- the greatest limit of payloads that it has had
  pub greatest : ℕ
  -- whether the preface is expected and not complete yet
  pub in_preface : Bool
  -- what was used and isn't part of a frame that was answered
  pub unparsed : List ℕ
  -- the octets that it keeps: of a frame that isn't complete, or of the one that was answered last,
  -- if that one was cut in two
  pub kept : List ℕ
  -- the place of the last octet that was used, or of the fault
  pub place : ℕ
  -- the fault that ended the stream
  pub fault : Option WireFault

-- a count of octets, saturated at the greatest number of 64 bits
-- rule: 5.4.1 The place of a fault counts the octets up to it, with the preface
-- rule: calls (own) An end lends its output, and says the place of a fault
abbrev pub saturated : ℕ → ℕ
saturated count = min count (2 ^ 64 - 1)

-- The cutter represents the stream so far, from which these frames were answered: it has used all
-- of it, without fault, and keeps what is unparsed.
-- rule: 3.4 (own) A cutter says whether the preface is complete or none is expected
-- rule: 4.1 The frames of a stream do not depend on the pieces of its octets
pub record CutterRepresents (state : CutterState) (expects : Bool) (limits : Limits)
    (stream : List ℕ) (frames : List Frame) : Type 0 where
  pub sound : state.fault ≡ None
  pub split : Frames expects limits stream frames state.unparsed
  pub in_preface : state.in_preface ≡ expects && nat_lt (length stream) (length preface)
  pub place : state.place ≡ saturated (length stream)
  pub ahead : (place : ℕ) → length stream < place → limits place ≡ state.limit

-- After a call that used these octets and answered these frames the cutter has met no fault: if it
-- represented `stream` and `so_far`, it now represents `stream ++ used` and `so_far ++ frames`.
-- rule: 4.1 Each frame is answered once, in the call that uses its last octet
pub record CutterContinues (old : CutterState) (used : List ℕ) (frames : List Frame)
    (new : CutterState) : Type 0 where
  pub sound : new.fault ≡ None
  pub same_limit : new.limit ≡ old.limit
  pub same_greatest : new.greatest ≡ old.greatest
  pub represents : (expects : Bool) (limits : Limits) (stream : List ℕ) (so_far : List Frame)
      → CutterRepresents old expects limits stream so_far
      → CutterRepresents new expects limits (stream ++ used) (so_far ++ frames)

-- After a call that met the fault in the piece: if the cutter represented `stream` and `so_far`,
-- then `stream ++ piece` is at fault right after `so_far`, at the place that the cutter now
-- answers.
-- rule: 5.4.1 After a fault each layer answers that fault and changes nothing
pub record CutterFaults (old : CutterState) (piece : List ℕ) (fault : WireFault)
    (new : CutterState) : Type 0 where
  pub known : new.fault ≡ Some fault
  pub none_unparsed : new.unparsed ≡ []
  pub in_preface : new.in_preface ≡ is_bad_preface fault
  pub same_limit : new.limit ≡ old.limit
  pub same_greatest : new.greatest ≡ old.greatest
  pub at : (expects : Bool) (limits : Limits) (stream : List ℕ) (so_far : List Frame)
      → CutterRepresents old expects limits stream so_far
      → (place : ℕ) × WireFaultAt expects limits (stream ++ piece) so_far place fault
      × (new.place ≡ saturated place)

-- After its limit was set the cutter has this limit, and is otherwise as before: if it represented
-- `stream` with these limits, it now represents it with limits that are the same for the octets of
-- `stream`, and this one for those that follow. So a head is checked by the limit that is in force
-- at its ninth octet (sections 4.2 and 6.5.2).
-- contract: h2_wire::Cutter::set_limit
-- rule: 4.2 (own) A cutter's limit is changed for heads that are still to come
pub record CutterLimited (old : CutterState) (limit : ℕ) (new : CutterState) : Type 0 where
  pub same : new ≡ record old { limit = limit; greatest = max old.greatest limit }
  pub represents : (expects : Bool) (limits : Limits) (stream : List ℕ) (frames : List Frame)
      → CutterRepresents old expects limits stream frames
      → CutterRepresents new expects
      (λ place. if nat_le place (length stream) then limits place else limit) stream frames

-- These octets begin with a head with this fault.
-- rule: 4.2 A fault of a head is known at its ninth octet, whatever memory is
pub record IsFaultyHead (octets : List ℕ) (limit : ℕ) (fault : HeadFault) : Type 0 where
  pub nine : 9 ≤ length octets
  pub faulty : head_fault (head_of octets) limit ≡ Some fault

-- The octets of frames that a call looks at: what is unparsed, and the piece; where the preface is
-- expected, what follows it.
abbrev pub frame_octets : CutterState → List ℕ → List ℕ
frame_octets old piece =
    if old.in_preface then drop (length preface) (old.unparsed ++ piece) else old.unparsed ++ piece

-- With no fault so far, and with the preface, where it is expected, complete in the piece: the
-- ninth octet of a head is in the piece, and the head is at fault.
-- rule: 4.2 A fault of a head is known at its ninth octet, whatever memory is
pub record FaultsAtHead (old : CutterState) (piece : List ℕ) (fault : HeadFault) : Type 0 where
  pub sound : old.fault ≡ None
  pub with_preface : old.in_preface ≡ true → BeginsWithPreface (old.unparsed ++ piece)
  pub begun : old.in_preface ≡ false → length old.unparsed < 9
  pub head : IsFaultyHead (frame_octets old piece) old.limit fault

-- With no fault so far, nothing unparsed, and with the preface, where it is expected, complete in
-- the piece: a frame follows in the piece, a head and as many octets as it asks for.
-- rule: 4.1 (own) A frame whole in its piece is lent from there and takes no memory
pub record BeginsWithFrame (old : CutterState) (piece : List ℕ) : Type 0 where
  pub sound : old.fault ≡ None
  pub with_preface : old.in_preface ≡ true → BeginsWithPreface (old.unparsed ++ piece)
  pub none_unparsed : old.in_preface ≡ false → old.unparsed ≡ []
  pub nine : 9 ≤ length (frame_octets old piece)
  pub whole : 9 + (head_of (frame_octets old piece)).length ≤ length (frame_octets old piece)

-- the octets of a complete frame, where they lie
abbrev pub octets_at : List ℕ → List ℕ → ℕ → Source → List ℕ
octets_at kept piece count (sources.Piece start) = take count (drop start piece)
octets_at kept piece count sources.Kept = kept

-- rule: 4.1 (own) A frame whole in its piece is lent from there and takes no memory
abbrev pub octets_of : CutterState → List ℕ → Complete → List ℕ
octets_of cutter piece frame =
    octets_at cutter.kept piece (9 + frame.head.length) frame.source

-- The complete frame lies in the piece, or in the cutter, with its head and without fault.
-- rule: 4.1 (own) A frame that is cut in two is kept until the next call
pub record HasFrame (cutter : CutterState) (piece : List ℕ) (frame : Complete) : Type 0 where
  pub complete : length (octets_of cutter piece frame) ≡ 9 + frame.head.length
  pub is_head : frame.head ≡ head_of (octets_of cutter piece frame)
  pub bounded : frame.head.length < 2 ^ 24
  pub form : form_fault frame.head ≡ None
  pub sound : payload_fault frame.head (drop 9 (octets_of cutter piece frame)) ≡ None
  pub pad : frame.pad ≡ pad_of frame.head (drop 9 (octets_of cutter piece frame))

-- the octets from the one where a frame begins
abbrev pub octets_from : List ℕ → List ℕ → Source → List ℕ
octets_from kept piece (sources.Piece start) = drop start piece
octets_from kept piece sources.Kept = kept

-- the octets between two places, if they are there
abbrev pub octets_within : ℕ → ℕ → List ℕ → Option (List ℕ)
octets_within first last octets =
    if nat_le first last && nat_le last (length octets)
    then Some (take (last - first) (drop first octets)) else None

-- Between pad length and padding of a frame whose payload has so many octets (sections 6.1 and
-- 6.2): from the tenth octet on, or the eleventh, after nine of the head.
abbrev pub body_between : Option ℕ → ℕ → List ℕ → Option (List ℕ)
body_between None count octets = octets_within 9 (9 + count) octets
body_between (Some padding) count octets = octets_within 10 (9 + count - padding) octets

-- The body of a complete frame where it lies, if such octets are there: its payload without pad
-- length and padding.
-- rule: 4.1 (own) A frame that is cut in two is kept until the next call
abbrev pub body_at : CutterState → List ℕ → Complete → Option (List ℕ)
body_at cutter piece frame =
    body_between frame.pad frame.head.length (octets_from cutter.kept piece frame.source)

-- the data of DATA
abbrev pub data_of_frame : Frame → Option (List ℕ)
data_of_frame (Data stream end octets pad) = Some octets
data_of_frame _ = None

-- the frames that a call answered: one or none
abbrev pub cut_frames : Option FrameRef → List Frame
cut_frames None = []
cut_frames (Some frame) = frame_of frame ∷ []

-- What a call that fails leaves. Lack of memory changes nothing, but the frame that was answered
-- last need not be kept. After a fault the cutter stays as it is.
-- rule: 5.4.1 After a fault each layer answers that fault and changes nothing
abbrev pub CutterFails : CutterState → List ℕ → WireFault → CutterState → Type 0
CutterFails old piece faults.Memory new = new ≡ record old { kept = new.kept }
CutterFails old piece faults.BadPreface new =
    MatchOption old.fault (CutterFaults old piece faults.BadPreface new) (λ known. new ≡ old)
CutterFails old piece (faults.HeadFault fault) new =
    MatchOption old.fault (CutterFaults old piece (faults.HeadFault fault) new) (λ known. new ≡ old)
CutterFails old piece (faults.PayloadFault code) new =
    MatchOption old.fault (CutterFaults old piece (faults.PayloadFault code) new)
    (λ known. new ≡ old)

-- A call that cut: it used a prefix of the piece, up to the end of a frame or all of it.
pub record CutterAdvances (old : CutterState) (piece : List ℕ) (cut : Cut)
    (new : CutterState) : Type 0 where
  pub continues : CutterContinues old (take cut.used piece) (cut_frames cut.frame) new
  pub none_unparsed_after_a_frame : IsSome cut.frame → new.unparsed ≡ []

-- what a call makes of the cutter
-- rule: 4.1 Each frame is answered once, in the call that uses its last octet
abbrev pub Cuts : CutterState → List ℕ → Result Cut WireFault → CutterState → Type 0
Cuts old piece (Ok cut) new = CutterAdvances old piece cut new
Cuts old piece (Err fault) new = CutterFails old piece fault new

-- A call that used all of the piece, in which no frame is complete.
pub record CutterPasses (old : CutterState) (piece : List ℕ) (used : ℕ) (new : CutterState) : Type 0
  where
    pub all : used ≡ length piece
    pub continues : CutterContinues old piece [] new

-- A call that used the piece up to the end of this frame, which isn't lent yet.
-- rule: 4.1 (own) A frame that is cut in two is kept until the next call
pub record CutterCompletes (old : CutterState) (piece : List ℕ) (used : ℕ) (frame : Complete)
    (new : CutterState) : Type 0 where
  pub within : used ≤ length piece
  pub some : 0 < used
  pub lies : HasFrame new piece frame
  pub none_unparsed : new.unparsed ≡ []
  pub continues : (value : Frame) → Encodes value (octets_of new piece frame)
      → CutterContinues old (take used piece) (value ∷ []) new

-- what a call that lends nothing makes of the cutter
-- rule: 4.1 (own) A frame whole in its piece is lent from there and takes no memory
abbrev pub Advances : CutterState → List ℕ → Result Advance WireFault → CutterState → Type 0
Advances old piece (Ok advance) new =
    MatchOption advance.frame (CutterPasses old piece advance.used new)
    (λ frame. CutterCompletes old piece advance.used frame new)
Advances old piece (Err fault) new = CutterFails old piece fault new
