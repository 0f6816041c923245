-- A fault that the cutter met, by the octets of the piece up to its place.
use Rattle.h2_conn.proofs.Names.{◌≡◌, ℕ, ◌+◌, ◌≤◌, nat_lt, Bool, true, false, List, ◌++◌, length}
use Rattle.h2_conn.proofs.Names.{take, drop, refl, ap, sym, subst, ◌∙◌, arith, take-append-drop}
use Rattle.h2_conn.proofs.Names.{length-take-le, take-length, Frame, WireFault, Limits, Frames}
use Rattle.std.proofs.Common.{◌-◌, ltb-true, ltb-false}
use Rattle.std.proofs.lemmas.List.{take-append-le, length-append}
use Rattle.std.proofs.Math.Seq.{take-append-add}
use Rattle.h2_wire.specs.Streams.{WireFaultAt, EndsWithFault}
use Rattle.h2_wire.proofs.FaultLemmas.{no_reading}

-- The octets of a piece with whose last one the fault is made.
abbrev FaultIn : Bool → Limits → List ℕ → List ℕ → List Frame → ℕ → WireFault → Type 0
FaultIn expects limits stream piece frames place fault =
    (octets unused : List ℕ) × (piece ≡ octets ++ unused)
    × WireFaultAt expects limits (stream ++ octets) frames (length (stream ++ octets)) fault
    × (place ≡ length (stream ++ octets))

module _ (expects : Bool) (limits : Limits) (stream piece : List ℕ) where
  -- The fault isn't made in octets that were read.
  not_before : (unparsed : List ℕ) (frames : List Frame) (place : ℕ)
      (fault : WireFault) {Goal : Type 0} → Frames expects limits stream frames unparsed
      → WireFaultAt expects limits (stream ++ piece) frames place fault → place ≤ length stream
      → Goal
  not_before unparsed frames place fault read at before =
      let made : EndsWithFault expects limits frames (take place stream) fault =
      subst (λ (octets : List ℕ). EndsWithFault expects limits frames octets fault)
      (take-append-le place stream piece before) at.made in
      absurd (no_reading expects limits (take place stream) (drop place stream) stream unparsed
      frames frames fault made (sym (take-append-drop place stream)) read)

  -- So it is made in the piece.
  in_piece : (frames : List Frame) (place count : ℕ) (fault : WireFault)
      → place ≡ length stream + count
      → WireFaultAt expects limits (stream ++ piece) frames place fault
      → FaultIn expects limits stream piece frames place fault
  in_piece frames place count fault is at =
      let octets : List ℕ = take count piece in
      let up_to : take place (stream ++ piece) ≡ stream ++ octets =
      ap (λ (n : ℕ). take n (stream ++ piece)) is ∙ take-append-add stream piece count in
      let made : EndsWithFault expects limits frames (take (length (stream ++ octets))
      (stream ++ octets)) fault =
      subst (λ (o : List ℕ). EndsWithFault expects limits frames o fault)
      (up_to ∙ sym (take-length (stream ++ octets))) at.made in
      let inside : count ≤ length piece =
      omega (arith, is, at.within, length-append stream piece) in (
        octets,
        drop count piece,
        sym (take-append-drop count piece),
        record { within = omega arith; made = made },
        omega (arith, is, length-append stream octets, length-take-le count piece inside),
      )

  fault_by : (unparsed : List ℕ) (frames : List Frame) (place : ℕ) (fault : WireFault)
      (before : Bool) → nat_lt place (length stream) ≡ before
      → Frames expects limits stream frames unparsed
      → WireFaultAt expects limits (stream ++ piece) frames place fault
      → FaultIn expects limits stream piece frames place fault
  fault_by unparsed frames place fault true is read at =
      let less = ltb-true place (length stream) is in
      not_before unparsed frames place fault read at (omega (arith, less))
  fault_by unparsed frames place fault false is read at =
      let more = ltb-false place (length stream) is in
      in_piece frames place (place - length stream) fault (omega (arith, more)) at

  pub fault_in : (unparsed : List ℕ) (frames : List Frame) (place : ℕ) (fault : WireFault)
      → Frames expects limits stream frames unparsed
      → WireFaultAt expects limits (stream ++ piece) frames place fault
      → FaultIn expects limits stream piece frames place fault
  fault_in unparsed frames place fault read at = fault_by unparsed frames place fault
      (nat_lt place (length stream)) refl read at
