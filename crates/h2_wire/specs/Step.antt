-- What the steps of one call make of a buffer, for every stream that it represented.
use Rattle.std.specs.Prelude.{◌≡◌, ℕ, ◌+◌, ◌^◌, ◌<◌, ◌≤◌, Bool, List, ◌++◌, length, take, drop}
use Rattle.std.specs.Prelude.{None, Some, Result, Ok, Err}
use Rattle.h2_frame.specs.declared.code.Code.{Code}
use Rattle.h2_frame.specs.declared.heads.Head.{Head}
use Rattle.h2_frame.specs.Heads.{head_of, form_fault, head_fault}
use Rattle.h2_frame.specs.Frames.{Frame, payload_fault, pad_of}
use Rattle.h2_wire.specs.declared.fault.WireFault.{WireFault}
use Rattle.h2_wire.specs.declared.fault.WireFault.TheVariants as faults
use Rattle.h2_wire.specs.declared.buffer.Buffer.{Buffer}
use Rattle.h2_wire.specs.declared.buffer.Phase.TheVariants as phases
use Rattle.h2_wire.specs.declared.cut.Source.{Source}
use Rattle.h2_wire.specs.declared.cut.Advance.{Advance}
use Rattle.h2_wire.specs.Streams.{Limits, IsAfterPreface}
use Rattle.h2_wire.specs.Cutter.{CutterState, saturated, CutterRepresents, octets_at, Advances}
use Rattle.h2_wire.specs.Buffer.{state_of, BufferInvariant}

-- Whatever the stream was: with these octets appended, exactly the partial frame follows its
-- frames.
abbrev pub Opens : CutterState → List ℕ → List ℕ → Type 0
Opens old used partial =
    (expects : Bool) (limits : Limits) (stream : List ℕ) (so_far : List Frame)
    → CutterRepresents old expects limits stream so_far
    → IsAfterPreface expects limits (stream ++ used) so_far partial

-- The same, and the head of the frame that begins there has no fault.
abbrev pub OpensSoundly : CutterState → List ℕ → List ℕ → Head → Type 0
OpensSoundly old used partial head =
    (expects : Bool) (limits : Limits) (stream : List ℕ) (so_far : List Frame)
    → CutterRepresents old expects limits stream so_far
    → (past : IsAfterPreface expects limits (stream ++ used) so_far partial)
    × (head_fault head (limits (length past.part + 9)) ≡ None)

-- After so many octets of the piece a head begins, or continues what is kept of it.
pub record StartsFrame (old : Buffer) (piece : List ℕ) (start : ℕ) : Type 0 where
  pub invariant : BufferInvariant old
  pub sound : (state_of old).fault ≡ None
  pub within : start ≤ length piece
  pub few : length old.octets.items < 9
  pub opens : Opens (state_of old) (take start piece) old.octets.items

-- After so many octets of the piece a frame begins, or continues what is kept of it; its head is
-- this one, which had no fault by the limit at its ninth octet.
pub record StartsPayload (old : Buffer) (piece : List ℕ) (start : ℕ) (head : Head) : Type 0 where
  pub invariant : BufferInvariant old
  pub sound : (state_of old).fault ≡ None
  pub within : start ≤ length piece
  pub short : length old.octets.items < 9 + head.length
  pub nine : 9 ≤ length old.octets.items + length (drop start piece)
  pub is_head : head ≡ head_of (old.octets.items ++ drop start piece)
  pub bounded : head.length < 2 ^ 24
  pub form : form_fault head ≡ None
  pub within_greatest : head.length ≤ old.greatest
  pub opens : OpensSoundly (state_of old) (take start piece) old.octets.items head

-- The frame with this head is complete with so many octets of the piece, or its payload is at
-- fault.
abbrev pub EndsFrame : Buffer → List ℕ → ℕ → Head → Source → Result Advance WireFault → Buffer
    → Type 0
EndsFrame old piece used head source (Ok advance) new =
    (payload_fault head (drop 9 (octets_at old.octets.items piece (9 + head.length) source)) ≡ None)
    × (advance ≡ record {
      used = used;
      frame = Some (record {
        head = head;
        pad = pad_of head (drop 9 (octets_at old.octets.items piece (9 + head.length) source));
        source = source;
      });
    })
    × (new ≡ record old { phase = phases.Lent; place = saturated (old.place + used) })
EndsFrame old piece used head source (Err fault) new =
    (code : Code)
    × (payload_fault head (drop 9 (octets_at old.octets.items piece (9 + head.length) source))
    ≡ Some code)
    × (fault ≡ faults.PayloadFault code)
    × (new ≡ record old { phase = phases.Failed fault; place = saturated (old.place + used) })

-- what a call made of the buffer
pub record BufferTakes (old : CutterState) (piece : List ℕ) (result : Result Advance WireFault)
    (new : Buffer) : Type 0 where
  pub invariant : BufferInvariant new
  pub makes : Advances old piece result (state_of new)
