-- What happened to an end, one mark after another, each octet by itself: its log is determined by
-- its marks.
use Rattle.h2_laws_end.proofs.Names
use Names.{◌≡◌, ℕ, true, false, List, [], ◌∷◌, ◌++◌, length, Option, None, Some, refl, sym, ap, ap₂}
use Names.{◌∙◌, arith, subst, append-nil, length-append, Frame, WireFault, Limits, Frames}
use Names.{WireFaultAt, one_reading_lem, block, Role, Values, is_server, Log, log_view, Decoded}
use Names.{FrameStep, completes, frame_step, limits_from, took_frame, took_fault}
use Names.{took_out_of_memory, took_none, with_call, IsDecodedIn, IsDecodedFor, Mark, Octet}
use Names.{without_turns, used, opened, Call, Unprocessed}
use Rattle.hpack.proofs.BlockLemmas.{one_block_lem}
use Rattle.h2_wire.proofs.FaultLemmas.{one_fault_lem, no_reading_lem}
use Rattle.h2_spec_log.specs.Histories.{IsDecoded}
use Rattle.h2_laws_end.specs.Scripts.{OutOfMemory}

-- The log after an octet that was used: no frame ended with it, or one did, or it made a fault.
pub data Uses (role : Role) (octet : ℕ) (before log : Log) : Type 0 where
  uses_part : (unparsed : List ℕ) → Frames (is_server role) (limits_from before) (before.input
      ++ octet ∷ []) before.frames unparsed
      → log ≡ without_turns (used before (octet ∷ []) unparsed) → Uses role octet before log
  uses_frame : (frame : Frame) (decoded : Option Decoded)
      → Frames (is_server role) (limits_from before) (before.input ++ octet ∷ [])
      (before.frames ++ frame ∷ []) [] → IsDecodedFor before decoded frame
      → log ≡ without_turns (took_frame before (octet ∷ []) decoded frame)
      → Uses role octet before log
  uses_fault : (fault : WireFault)
      → WireFaultAt (is_server role) (limits_from before) (before.input ++ octet ∷ []) before.frames
      (length (before.input ++ octet ∷ [])) fault
      → log ≡ without_turns (took_fault before (octet ∷ []) fault) → Uses role octet before log

-- The log after marks, the newest one first.
abbrev pub Run : Role → Values → List Mark → Log → Type 0
Run role values [] log = log ≡ without_turns (opened role values)
Run role values (Octet octet ∷ marks) log = (before : Log) × Run role values marks before
    × Uses role octet before log
Run role values (Call act answer ∷ marks) log = (before : Log) × Run role values marks before
    × (log ≡ without_turns (with_call before act answer))
Run role values (Unprocessed ∷ marks) log = (before : Log) × Run role values marks before
    × (log ≡ without_turns (took_none before))
Run role values (OutOfMemory false ∷ marks) log = (before : Log) × Run role values marks before
    × (log ≡ without_turns (took_out_of_memory before []))
Run role values (OutOfMemory true ∷ []) log = ⊥
Run role values (OutOfMemory true ∷ (Octet octet ∷ marks)) log = (before : Log)
    × Run role values marks before × (log ≡ without_turns (took_out_of_memory before (octet ∷ [])))
Run role values (OutOfMemory true ∷ (mark ∷ marks)) log = ⊥

-- A list isn't itself and one more.
pub no_longer : {A : Type 0} (frames : List A) (frame : A) → frames ≡ frames ++ frame ∷ [] → ⊥
no_longer frames frame line =
    let counted = simp length-append at (ap length line) in omega (arith, counted)

-- The last of a list is one.
pub one_last : (frames : List Frame) (frame other : Frame)
    → frames ++ frame ∷ [] ≡ frames ++ other ∷ [] → frame ≡ other
one_last [] frame other line = cc
one_last (first ∷ frames) frame other line =
    let line_on : frames ++ frame ∷ [] ≡ frames ++ other ∷ [] = cc in
    one_last frames frame other line_on

-- A block says one thing.
pub one_decoded : (log : Log) (octets : List ℕ) (decoded other : Option Decoded)
    → IsDecoded log octets decoded → IsDecoded log octets other → decoded ≡ other
one_decoded log octets None None is again = refl
one_decoded log octets None (Some other) is again = absurd (is other.fields other.after again)
one_decoded log octets (Some decoded) None is again = absurd (again decoded.fields decoded.after is)
one_decoded log octets (Some decoded) (Some other) is again =
    let one = one_block_lem _ _ _ _ _ _ other.fields is again in
    ap₂ (λ fields after. Some (record { fields = fields; after = after })) one.0 one.1

-- So does a frame.
pub one_seen : (log : Log) (decoded other : Option Decoded) (step : FrameStep)
    → IsDecodedIn log decoded step → IsDecodedIn log other step → decoded ≡ other
one_seen log decoded other (completes (block stream end octets)) is again =
    one_decoded log octets decoded other is again
one_seen log decoded other step is again = is ∙ sym again

module _ (role : Role) (limits : Limits) (stream : List ℕ) where
  -- What is read isn't at fault.
  pub no_fault : (unparsed : List ℕ) (frames others : List Frame) (place : ℕ) (fault : WireFault)
      → Frames (is_server role) limits stream others unparsed
      → WireFaultAt (is_server role) limits stream frames place fault → ⊥
  no_fault unparsed frames others place fault read at =
      no_reading_lem (is_server role) limits stream [] frames others place fault unparsed at
      (subst (λ (octets : List ℕ). Frames (is_server role) limits octets others unparsed)
      (sym (append-nil stream)) read)

  -- A frame ends with an octet, or none does.
  one_frame_or_none : (unparsed : List ℕ) (frames : List Frame) (frame : Frame)
      → Frames (is_server role) limits stream frames unparsed
      → Frames (is_server role) limits stream (frames ++ frame ∷ []) [] → ⊥
  one_frame_or_none unparsed frames frame read ends =
      no_longer frames frame (one_reading_lem (is_server role) limits stream frames
      (frames ++ frame ∷ []) unparsed [] read ends).0

  -- One fault is made.
  pub one_fault : (frames : List Frame) (fault other : WireFault)
      → WireFaultAt (is_server role) limits stream frames (length stream) fault
      → WireFaultAt (is_server role) limits stream frames (length stream) other → fault ≡ other
  one_fault frames fault other at again =
      (one_fault_lem (is_server role) limits stream [] frames frames (length stream)
      (length stream) fault other at
      (subst (λ (octets : List ℕ). WireFaultAt (is_server role) limits octets frames
      (length stream) other) (sym (append-nil stream)) again)).2

module _ (role : Role) (octet : ℕ) (before log other : Log) where
  -- An octet makes one log of a log.
  pub one_use : Uses role octet before log → Uses role octet before other → log ≡ other
  one_use (uses_part unparsed read is) (uses_part left again same) =
      is ∙ ap (λ (line : List ℕ). without_turns (used before (octet ∷ []) line))
      (one_reading_lem (is_server role) (limits_from before) (before.input ++ octet ∷ [])
      before.frames before.frames unparsed left read again).1 ∙ sym same
  one_use (uses_part unparsed read is) (uses_frame frame decoded ends sees same) =
      absurd (one_frame_or_none role _ _ unparsed before.frames frame read ends)
  one_use (uses_part unparsed read is) (uses_fault fault at same) =
      absurd (no_fault role _ _ unparsed before.frames before.frames _ fault read at)
  one_use (uses_frame frame decoded ends sees is) (uses_part left again same) =
      absurd (one_frame_or_none role _ _ left before.frames frame again ends)
  one_use (uses_frame frame decoded ends sees is) (uses_frame another seen again saw same) =
      let frame_same : frame ≡ another = one_last before.frames frame another
      (one_reading_lem (is_server role) (limits_from before) (before.input ++ octet ∷ [])
      (before.frames ++ frame ∷ []) (before.frames ++ another ∷ []) [] [] ends again).0 in
      let saw_it : IsDecodedFor before seen frame =
      subst (λ (one : Frame). IsDecodedFor before seen one) (sym frame_same) saw in
      let decoded_same : decoded ≡ seen =
      one_seen before decoded seen (frame_step (log_view before) frame) sees saw_it in
      is ∙ ap₂ (λ (one : Option Decoded) (two : Frame).
      without_turns (took_frame before (octet ∷ []) one two)) decoded_same frame_same ∙ sym same
  one_use (uses_frame frame decoded ends sees is) (uses_fault fault at same) =
      absurd (no_fault role _ _ [] before.frames (before.frames ++ frame ∷ []) _ fault ends at)
  one_use (uses_fault fault at is) (uses_part left again same) =
      absurd (no_fault role _ _ left before.frames before.frames _ fault again at)
  one_use (uses_fault fault at is) (uses_frame frame decoded ends sees same) =
      absurd (no_fault role _ _ [] before.frames (before.frames ++ frame ∷ []) _ fault ends at)
  one_use (uses_fault fault at is) (uses_fault another again same) =
      is ∙ ap (λ (one : WireFault). without_turns (took_fault before (octet ∷ []) one))
      (one_fault role (limits_from before) (before.input ++ octet ∷ []) before.frames fault another
      at again) ∙ sym same

-- Marks make one log.
pub one_run : (role : Role) (values : Values) (marks : List Mark) (log other : Log)
    → Run role values marks log → Run role values marks other → log ≡ other
one_run role values [] log other is same = is ∙ sym same
one_run role values (Octet octet ∷ marks) log other (before, run, uses) (earlier, rerun, again) =
    one_use role octet before log other uses (subst (λ (one : Log). Uses role octet one other)
    (sym (one_run role values marks before earlier run rerun)) again)
one_run role values (Call act answer ∷ marks) log other (before, run, is) (earlier, rerun, same) =
    is ∙ ap (λ (one : Log). without_turns (with_call one act answer))
    (one_run role values marks before earlier run rerun) ∙ sym same
one_run role values (Unprocessed ∷ marks) log other (before, run, is) (earlier, rerun, same) =
    is ∙ ap (λ (one : Log). without_turns (took_none one))
    (one_run role values marks before earlier run rerun) ∙ sym same
one_run role values (OutOfMemory false ∷ marks) log other (before, run, is) (earlier, rerun, same) =
    is ∙ ap (λ (one : Log). without_turns (took_out_of_memory one []))
    (one_run role values marks before earlier run rerun) ∙ sym same
one_run role values (OutOfMemory true ∷ []) log other none same = absurd none
one_run role values (OutOfMemory true ∷ (Octet octet ∷ marks)) log other (before, run, is)
    (earlier, rerun, same) =
    is ∙ ap (λ (one : Log). without_turns (took_out_of_memory one (octet ∷ [])))
    (one_run role values marks before earlier run rerun) ∙ sym same
one_run role values (OutOfMemory true ∷ (Call act answer ∷ marks)) log other none same = absurd none
one_run role values (OutOfMemory true ∷ (Unprocessed ∷ marks)) log other none same = absurd none
one_run role values (OutOfMemory true ∷ (OutOfMemory in_frame ∷ marks)) log other none same =
    absurd none
