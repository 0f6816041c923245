-- However octets were cut into pieces, a log is one that its script makes octet by octet.
use Rattle.h2_laws_end.proofs.Names
use Names.{◌≡◌, ℕ, true, false, List, [], ◌∷◌, ◌++◌, length, Option, None, refl, sym, ap, ◌∙◌}
use Names.{subst, inl, inr, append-nil, Frame, WireFault, Limits, Frames, WireFaultAt, Role, Values}
use Names.{is_server, Log, Decoded, limits_from, took_frame, took_fault, took_out_of_memory, IsLog}
use Names.{begins, took_some, took_one, met_fault, ran_out_of_memory, reported_one, called_one}
use Names.{IsDecodedFor, stream_of_log, Mark, Octet, without_turns, AreSameButTurns}
use Names.{MayRunOutOfMemory, to_report, to_keep, to_take, Call, Unprocessed}
use Rattle.std.proofs.Common.{map as each}
use Rattle.h2_laws_end.specs.Scripts.{OutOfMemory, script_of, is_in_frame}
use Rattle.h2_laws_end.proofs.PieceLogs.{read_here, alike_without, none_alike, call_alike}
use Rattle.h2_laws_end.proofs.PieceParts.{last_or}
use Rattle.h2_laws_end.proofs.PieceRuns.{back, IsReadOf, parts_run, frame_run, fault_run, lost_run}
use Rattle.h2_laws_end.proofs.PieceRuns.{refused_at_once, none_end}
use Rattle.h2_laws_end.proofs.Runs.{Run, one_run, no_fault}

-- Marks after marks.
back_after : (marks newer older : List Mark) → back (marks ++ newer) older
    ≡ back newer (back marks older)
back_after [] newer older = refl
back_after (mark ∷ marks) newer older = back_after marks newer (mark ∷ older)

-- The frames of a log that hasn't failed are those of its octets.
log_read : (role : Role) (values : Values) (log : Log) → IsLog role values log → log.failed ≡ None
    → IsReadOf role (limits_from log) log
log_read role values log is up = record {
  own = refl;
  read = read_here (is_server role) log ((stream_of_log role values log is).framed up);
}

-- Octets with whose last a frame ends.
frame_piece : (role : Role) (values : Values) (limits : Limits) (octets : List ℕ)
    (marks : List Mark) (log : Log) (frame : Frame) (decoded : Option Decoded)
    → Run role values marks (without_turns log) → IsReadOf role limits log
    → Frames (is_server role) limits (log.input ++ octets) (log.frames ++ frame ∷ []) []
    → IsDecodedFor log decoded frame
    → Run role values (back (each Octet octets) marks)
    (without_turns (took_frame log octets decoded frame))
frame_piece role values limits octets marks log frame decoded run read ends sees =
    elim (last_or octets) [
      | inl none ↦ absurd (none_end role limits log octets frame none read ends)
      | inr (init, last, is) ↦
          subst (λ (line : List ℕ). Run role values (back (each Octet line) marks)
          (without_turns (took_frame log line decoded frame))) (sym is)
          (frame_run role values limits init last marks log frame decoded run read
          (subst (λ (line : List ℕ). Frames (is_server role) limits (log.input ++ line)
          (log.frames ++ frame ∷ []) []) is ends) sees)
    ]

-- No octets make no fault.
none_fault : (role : Role) (limits : Limits) (log : Log) (octets : List ℕ) (fault : WireFault)
    → octets ≡ [] → IsReadOf role limits log
    → WireFaultAt (is_server role) limits (log.input ++ octets) log.frames
    (length (log.input ++ octets)) fault → ⊥
none_fault role limits log octets fault none read at =
    no_fault role limits (log.input ++ octets) log.unparsed log.frames log.frames _ fault
    (subst (λ (input : List ℕ). Frames (is_server role) limits input log.frames log.unparsed)
    (sym (ap (λ (line : List ℕ). log.input ++ line) none ∙ append-nil log.input)) read.read) at

module _ (role : Role) (values : Values) where
  -- Octets whose last makes a fault.
  fault_piece : (limits : Limits) (octets : List ℕ) (marks : List Mark) (log : Log)
      (fault : WireFault) → Run role values marks (without_turns log) → IsReadOf role limits log
      → WireFaultAt (is_server role) limits (log.input ++ octets) log.frames
      (length (log.input ++ octets)) fault
      → Run role values (back (each Octet octets) marks) (without_turns
      (took_fault log octets fault))
  fault_piece limits octets marks log fault run read at = elim (last_or octets) [
    | inl none ↦ absurd (none_fault role limits log octets fault none read at)
    | inr (init, last, is) ↦
        subst (λ (line : List ℕ). Run role values (back (each Octet line) marks)
        (without_turns (took_fault log line fault))) (sym is)
        (fault_run role values limits init last marks log fault run read
        (subst (λ (line : List ℕ). WireFaultAt (is_server role) limits (log.input ++ line)
        log.frames (length (log.input ++ line)) fault) is at))
  ]

  -- Octets with whose last a frame ends for which memory is refused.
  lost_piece : (limits : Limits) (octets : List ℕ) (marks : List Mark) (log : Log) (frame : Frame)
      → Run role values marks (without_turns log) → IsReadOf role limits log
      → Frames (is_server role) limits (log.input ++ octets) (log.frames ++ frame ∷ []) []
      → Run role values (back (each Octet octets ++ OutOfMemory true ∷ []) marks)
      (without_turns (took_out_of_memory log octets))
  lost_piece limits octets marks log frame run read ends = elim (last_or octets) [
    | inl none ↦ absurd (none_end role limits log octets frame none read ends)
    | inr (init, last, is) ↦ subst (λ (line : List ℕ). Run role values
        (back (each Octet line ++ OutOfMemory true ∷ []) marks)
        (without_turns (took_out_of_memory log line))) (sym is)
        (subst (λ (line : List Mark). Run role values line
        (without_turns (took_out_of_memory log (init ++ last ∷ []))))
        (sym (back_after (each Octet (init ++ last ∷ [])) (OutOfMemory true ∷ []) marks))
        (lost_run role values limits init last marks log frame run read
        (subst (λ (line : List ℕ). Frames (is_server role) limits (log.input ++ line)
        (log.frames ++ frame ∷ []) []) is ends)))
  ]

  -- Memory is refused.
  memory_piece : (octets : List ℕ) (marks : List Mark) (log : Log) → IsLog role values log
      → log.failed ≡ None → (may : MayRunOutOfMemory role log octets)
      → Run role values marks (without_turns log)
      → Run role values (back (each Octet octets ++ OutOfMemory (is_in_frame may) ∷ []) marks)
      (without_turns (took_out_of_memory log octets))
  memory_piece octets marks log is up (unused, to_report none some due) run =
      subst (λ (line : List ℕ). Run role values
      (back (each Octet line ++ OutOfMemory false ∷ []) marks)
      (without_turns (took_out_of_memory log line))) (sym none)
      (refused_at_once role values marks log run)
  memory_piece octets marks log is up (unused, to_keep none takes keeps) run =
      subst (λ (line : List ℕ). Run role values
      (back (each Octet line ++ OutOfMemory false ∷ []) marks)
      (without_turns (took_out_of_memory log line))) (sym none)
      (refused_at_once role values marks log run)
  memory_piece octets marks log is up (unused, to_take takes frame ends needs) run =
      lost_piece (limits_from log) octets marks log frame run (log_read role values log is up) ends

  -- One more piece after a script.
  after_piece : (script piece : List Mark) (log : Log)
      → Run role values (back piece (back script [])) log
      → Run role values (back (script ++ piece) []) log
  after_piece script piece log run =
      subst (λ (line : List Mark). Run role values line log) (sym (back_after script piece [])) run

  -- Every log.
  run_of : (log : Log) (history : IsLog role values log)
      → Run role values (back (script_of history) []) (without_turns log)
  unfolding script_of
  run_of _ (begins in_range) = refl
  run_of _ (took_some {log = log} is takes octets unparsed part) =
      after_piece (script_of is) (each Octet octets) _
      (parts_run role values (limits_from log) octets _ log unparsed (run_of log is)
      (log_read role values log is takes.up) part)
  run_of _ (took_one {log = log} is takes octets frame decoded ends sees) =
      after_piece (script_of is) (each Octet octets) _
      (frame_piece role values (limits_from log) octets _ log frame decoded
      (run_of log is) (log_read role values log is takes.up) ends sees)
  run_of _ (met_fault {log = log} is takes octets fault at) =
      after_piece (script_of is) (each Octet octets) _
      (fault_piece (limits_from log) octets _ log fault (run_of log is)
      (log_read role values log is takes.up) at)
  run_of _ (ran_out_of_memory {log = log} is up octets may) =
      after_piece (script_of is) (each Octet octets ++ OutOfMemory (is_in_frame may) ∷ [])
      _ (memory_piece octets _ log is up may (run_of log is))
  run_of _ (reported_one {log = log} is up some) = after_piece (script_of is) (Unprocessed ∷ []) _ (
    without_turns log,
    run_of log is,
    none_alike log (without_turns log) (alike_without log),
  )
  run_of _ (called_one {log = log} is act answer typed may) =
      after_piece (script_of is) (Call act answer ∷ []) _ (
        without_turns log,
        run_of log is,
        call_alike log (without_turns log) act answer (alike_without log),
      )

-- Two histories with one script are of one log, but for the turns.
pub same_but_turns : (role : Role) (values : Values) (log other : Log)
    (history : IsLog role values log) (another : IsLog role values other)
    → script_of history ≡ script_of another → AreSameButTurns log other
same_but_turns role values log other history another script =
    one_run role values _ (without_turns log) (without_turns other) (run_of role values log history)
    (subst (λ (line : List Mark). Run role values (back line []) (without_turns other)) (sym script)
    (run_of role values other another))
