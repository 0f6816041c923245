-- Pieces of octets, octet by octet.
use Rattle.h2_laws_end.proofs.Names
use Names.{◌≡◌, ℕ, false, true, List, [], ◌∷◌, ◌++◌, length, Option, None, Some, refl, sym, ap, ◌∙◌}
use Names.{subst, append_assoc, append-nil, take, InternalError, Frame, WireFault, wire_fault_code}
use Names.{Limits, Frames, WireFaultAt, EndsWithFault, one_reading_lem, alone, block, Role, Values}
use Names.{is_server, Log, View, log_view, Decoded, FrameStep, fails_with, begins_block, completes}
use Names.{frame_step, limits_from, took_frame, took_fault, took_out_of_memory, IsDecodedIn}
use Names.{IsDecodedFor, Mark, Octet, without_turns, AreSameButTurns, last_processed, waiting}
use Names.{output, unreleased, next_number, active_count, max_streams, overflows, used}
use Rattle.std.proofs.Common.{map as each}
use Rattle.std.proofs.Math.Seq.{take-append_seam}
use Rattle.h2_laws_end.specs.Scripts.{OutOfMemory}
use Rattle.h2_laws_end.proofs.PieceLogs.{limits_without, limits_used, frame_alike, failure_alike}
use Rattle.h2_laws_end.proofs.PieceLogs.{used_none, used_twice, used_without}
use Rattle.h2_laws_end.proofs.PieceParts.{no_frame_in_prefix, no_frame_before_last}
use Rattle.h2_laws_end.proofs.PieceParts.{no_fault_before_last}
use Rattle.h2_laws_end.proofs.Runs.{Run, uses_part, uses_frame, uses_fault, no_longer}

-- Marks after others, the newest one first.
abbrev pub back : List Mark → List Mark → List Mark
back [] older = older
back (mark ∷ marks) older = back marks (mark ∷ older)

-- The last octet is the newest.
back_last : (octets : List ℕ) (last : ℕ) (older : List Mark)
    → back (each Octet (octets ++ last ∷ [])) older ≡ Octet last ∷ back (each Octet octets) older
back_last [] last older = refl
back_last (octet ∷ octets) last older = back_last octets last (Octet octet ∷ older)

-- The frames of a log are read of its octets with these limits, which are the log's own.
pub record IsReadOf (role : Role) (limits : Limits) (log : Log) : Type 0 where
  pub own : limits_from log ≡ limits
  pub read : Frames (is_server role) limits log.input log.frames log.unparsed

-- So they are once octets were used.
read_used : (role : Role) (limits : Limits) (log : Log) (octets unparsed : List ℕ)
    → limits_from log ≡ limits
    → Frames (is_server role) limits (log.input ++ octets) log.frames unparsed
    → IsReadOf role limits (used log octets unparsed)
unfolding used
read_used role limits log octets unparsed own read =
    record { own = limits_used log octets unparsed ∙ own; read = read }

-- A log without its turns has these limits too, once octets were used.
own_used : (limits : Limits) (log : Log) (octets unparsed : List ℕ) → limits_from log ≡ limits
    → limits_from (without_turns (used log octets unparsed)) ≡ limits
own_used limits log octets unparsed own =
    limits_without (used log octets unparsed) ∙ limits_used log octets unparsed ∙ own

-- More octets of it.
more_used : (role : Role) (limits : Limits) (log : Log) (octets others unparsed : List ℕ)
    (frames : List Frame) (left : List ℕ)
    → Frames (is_server role) limits (log.input ++ (octets ++ others)) frames left
    → Frames (is_server role) limits ((used log octets unparsed).input ++ others) frames left
unfolding used
more_used role limits log octets others unparsed frames left read =
    subst (λ (input : List ℕ). Frames (is_server role) limits input frames left)
    (sym (append_assoc log.input octets others)) read

-- The frames stay.
frames_used : (log : Log) (octets unparsed : List ℕ)
    → (used log octets unparsed).frames ≡ log.frames
unfolding used
frames_used log octets unparsed = refl

-- An octet with which no frame ends.
one_part : (role : Role) (values : Values) (limits : Limits) (marks : List Mark) (log : Log)
    (octet : ℕ) (left : List ℕ) → Run role values marks (without_turns log)
    → limits_from log ≡ limits
    → Frames (is_server role) limits (log.input ++ octet ∷ []) log.frames left
    → Run role values (Octet octet ∷ marks) (without_turns (used log (octet ∷ []) left))
one_part role values limits marks log octet left run own read = (
  without_turns log,
  run,
  uses_part left
      (subst (λ (line : Limits). Frames (is_server role) line (log.input ++ octet ∷ []) log.frames
      left) (sym (limits_without log ∙ own)) read) (sym (used_without log (octet ∷ []) left)),
)

-- Octets with which no frame ends.
pub parts_run : (role : Role) (values : Values) (limits : Limits) (octets : List ℕ)
    (marks : List Mark) (log : Log) (unparsed : List ℕ)
    → Run role values marks (without_turns log) → IsReadOf role limits log
    → Frames (is_server role) limits (log.input ++ octets) log.frames unparsed
    → Run role values (back (each Octet octets) marks) (without_turns (used log octets unparsed))
parts_run role values limits [] marks log unparsed run read again =
    let same = (one_reading_lem _ _ _ _ _ _ unparsed read.read
    (subst (λ (input : List ℕ). Frames (is_server role) limits input log.frames unparsed)
    (append-nil log.input) again)).1 in
    subst (λ (one : Log). Run role values marks one) (used_none log unparsed same) run
parts_run role values limits (octet ∷ octets) marks log unparsed run read again =
    let between = no_frame_in_prefix _ _ _ _ _ _ _ unparsed read.read
    (subst (λ (input : List ℕ). Frames (is_server role) limits input log.frames unparsed)
    (sym (append_assoc log.input (octet ∷ []) octets)) again) in
    let next = used log (octet ∷ []) between.0 in
    subst (λ (one : Log). Run role values (back (each Octet octets) (Octet octet ∷ marks)) one)
    (used_twice log (octet ∷ []) octets between.0 unparsed)
    (parts_run role values limits octets (Octet octet ∷ marks) next unparsed
    (one_part role values limits marks log octet between.0 run read.own between.1)
    (read_used role limits log (octet ∷ []) between.0 read.own between.1)
    (subst (λ (frames : List Frame). Frames (is_server role) limits
    (next.input ++ octets) frames unparsed) (sym (frames_used log (octet ∷ []) between.0))
    (more_used role limits log (octet ∷ []) octets between.0 log.frames unparsed again)))

module _ (log : Log) (octets unparsed : List ℕ) where
  -- The view, once octets were used.
  view_used : log_view log ≡ log_view (without_turns (used log octets unparsed))
  unfolding used overflows next_number active_count last_processed max_streams waiting output
      unreleased
  view_used = refl

  -- What was seen, once octets were used.
  seen_used : (decoded : Option Decoded) (step : FrameStep) → IsDecodedIn log decoded step
      → IsDecodedIn (without_turns (used log octets unparsed)) decoded step
  unfolding used
  seen_used decoded (fails_with code) is = is
  seen_used decoded (begins_block begun) is = is
  seen_used decoded (completes (alone frame)) is = is
  seen_used None (completes (block stream end fragment)) is = is
  seen_used (Some decoded) (completes (block stream end fragment)) is = is

  decoded_used : (decoded : Option Decoded) (frame : Frame) → IsDecodedFor log decoded frame
      → IsDecodedFor (without_turns (used log octets unparsed)) decoded frame
  decoded_used decoded frame is = seen_used decoded _
      (subst (λ (view : View). IsDecodedIn log decoded (frame_step view frame)) (view_used) is)

-- The last of octets after the others.
used_last : (log : Log) (init left : List ℕ) (last : ℕ)
    → AreSameButTurns (used log (init ++ last ∷ []) [])
    (used (without_turns (used log init left)) (last ∷ []) [])
used_last log init left last = sym (used_without _ _ [] ∙ used_twice log init (last ∷ []) left [])

-- The stream that was processed last stays.
last_used : (log : Log) (octets unparsed : List ℕ) → last_processed log
    ≡ last_processed (without_turns (used log octets unparsed))
unfolding used last_processed
last_used log octets unparsed = refl

-- Octets with whose last a frame ends.
pub frame_run : (role : Role) (values : Values) (limits : Limits) (init : List ℕ) (last : ℕ)
    (marks : List Mark) (log : Log) (frame : Frame) (decoded : Option Decoded)
    → Run role values marks (without_turns log) → IsReadOf role limits log
    → Frames (is_server role) limits (log.input ++ (init ++ last ∷ [])) (log.frames ++ frame ∷ [])
    [] → IsDecodedFor log decoded frame
    → Run role values (back (each Octet (init ++ last ∷ [])) marks)
    (without_turns (took_frame log (init ++ last ∷ []) decoded frame))
frame_run role values limits init last marks log frame decoded run read ends sees =
    let left = no_frame_before_last (is_server role) limits log.frames frame log.input init
    log.unparsed last read.read (subst (λ (input : List ℕ). Frames (is_server role) limits input
    (log.frames ++ frame ∷ []) []) (sym (append_assoc log.input init (last ∷ []))) ends) in
    let next = used log init left.0 in
    let ends_now : Frames (is_server role) limits (next.input ++ last ∷ [])
    (next.frames ++ frame ∷ []) [] =
    subst (λ (frames : List Frame). Frames (is_server role) limits (next.input
    ++ last ∷ []) (frames ++ frame ∷ []) []) (sym (frames_used log init left.0))
    (more_used role limits log init (last ∷ []) left.0 (log.frames ++ frame ∷ []) [] ends) in
    subst (λ (line : List Mark). Run role values line
    (without_turns (took_frame log (init ++ last ∷ []) decoded frame)))
    (sym (back_last init last marks)) (
      without_turns next,
      parts_run role values limits init marks log left.0 run read left.1,
      uses_frame frame decoded
          (subst (λ (line : Limits). Frames (is_server role) line (next.input ++ last ∷ [])
          (next.frames ++ frame ∷ []) []) (sym (own_used limits log init left.0 read.own)) ends_now)
          (decoded_used log init left.0 decoded frame sees)
          (frame_alike _ _ decoded frame (used_last log init left.0 last)),
    )

-- All of octets are their prefix of their length.
all_octets : (octets : List ℕ) → take (length octets) octets ≡ octets
all_octets octets = ap (λ (line : List ℕ). take (length octets) line) (sym (append-nil octets))
    ∙ take-append_seam octets []

-- A fault at the end of octets, and at the end of more.
fault_moved : (role : Role) (limits own : Limits) (stream other : List ℕ)
    (frames others : List Frame) (fault : WireFault) → limits ≡ own → stream ≡ other
    → frames ≡ others → WireFaultAt (is_server role) limits stream frames (length stream) fault
    → WireFaultAt (is_server role) own other others (length other) fault
fault_moved role limits own stream other frames others fault line same equal at =
    rw (← line, ← same, ← equal) at

-- The input, once octets were used.
input_used : (log : Log) (octets others unparsed : List ℕ) → log.input ++ (octets ++ others)
    ≡ (used log octets unparsed).input ++ others
unfolding used
input_used log octets others unparsed = sym (append_assoc log.input octets others)

-- Octets whose last makes a fault.
pub fault_run : (role : Role) (values : Values) (limits : Limits) (init : List ℕ) (last : ℕ)
    (marks : List Mark) (log : Log) (fault : WireFault)
    → Run role values marks (without_turns log) → IsReadOf role limits log
    → WireFaultAt (is_server role) limits (log.input ++ (init ++ last ∷ [])) log.frames
    (length (log.input ++ (init ++ last ∷ []))) fault
    → Run role values (back (each Octet (init ++ last ∷ [])) marks)
    (without_turns (took_fault log (init ++ last ∷ []) fault))
fault_run role values limits init last marks log fault run read at =
    let made : EndsWithFault (is_server role) limits log.frames ((log.input ++ init) ++ last ∷ [])
    fault =
    subst (λ (octets : List ℕ). EndsWithFault (is_server role) limits log.frames octets fault)
    (all_octets _ ∙ sym (append_assoc log.input init (last ∷ []))) at.made in
    let left = no_fault_before_last (is_server role) limits log.frames (log.input ++ init) last
    fault made in
    let next = used log init left.0 in
    subst (λ (line : List Mark). Run role values line
    (without_turns (took_fault log (init ++ last ∷ []) fault))) (sym (back_last init last marks)) (
      without_turns next,
      parts_run role values limits init marks log left.0 run read left.1,
      uses_fault fault
          (fault_moved role limits _ _ (next.input ++ last ∷ []) log.frames next.frames fault
          (sym (own_used limits log init left.0 read.own)) (input_used log init (last ∷ []) left.0)
          (sym (frames_used log init left.0)) at)
          (failure_alike _ _ (wire_fault_code fault) _ _ (last_used log init left.0)
          (used_last log init left.0 last)),
    )

-- Octets with whose last a frame ends for which memory is refused.
pub lost_run : (role : Role) (values : Values) (limits : Limits) (init : List ℕ) (last : ℕ)
    (marks : List Mark) (log : Log) (frame : Frame)
    → Run role values marks (without_turns log) → IsReadOf role limits log
    → Frames (is_server role) limits (log.input ++ (init ++ last ∷ [])) (log.frames ++ frame ∷ [])
    []
    → Run role values (OutOfMemory true ∷ back (each Octet (init ++ last ∷ [])) marks)
    (without_turns (took_out_of_memory log (init ++ last ∷ [])))
lost_run role values limits init last marks log frame run read ends =
    let left = no_frame_before_last (is_server role) limits log.frames frame log.input init
    log.unparsed last read.read (subst (λ (input : List ℕ). Frames (is_server role) limits input
    (log.frames ++ frame ∷ []) []) (sym (append_assoc log.input init (last ∷ []))) ends) in
    subst (λ (line : List Mark). Run role values (OutOfMemory true ∷ line)
    (without_turns (took_out_of_memory log (init ++ last ∷ []))))
    (sym (back_last init last marks)) (
      without_turns (used log init left.0),
      parts_run role values limits init marks log left.0 run read left.1,
      failure_alike _ _ InternalError _ _ (last_used _ _ left.0) (used_last log init left.0 last),
    )

-- The same stream processed last in a log without its turns.
last_here : (log : Log) → last_processed log ≡ last_processed (without_turns log)
unfolding last_processed
last_here log = refl

-- Memory is refused before any octet was used.
pub refused_at_once : (role : Role) (values : Values) (marks : List Mark) (log : Log)
    → Run role values marks (without_turns log)
    → Run role values (OutOfMemory false ∷ marks) (without_turns (took_out_of_memory log []))
refused_at_once role values marks log run = (
  without_turns log,
  run,
  failure_alike _ _ InternalError _ _ (last_here log) (sym (used_without log [] [])),
)

-- No octets end a frame.
pub none_end : (role : Role) (limits : Limits) (log : Log) (octets : List ℕ) (frame : Frame)
    → octets ≡ [] → IsReadOf role limits log
    → Frames (is_server role) limits (log.input ++ octets) (log.frames ++ frame ∷ []) []
    → ⊥
none_end role limits log octets frame none read ends =
    no_longer log.frames frame (one_reading_lem _ _ _ _ _ log.unparsed [] read.read
    (subst (λ (input : List ℕ). Frames (is_server role) limits input
    (log.frames ++ frame ∷ []) []) (ap (λ (line : List ℕ). log.input ++ line) none
    ∙ append-nil log.input) ends)).0
