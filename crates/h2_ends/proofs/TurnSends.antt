-- A share of octets that have room sends one at least.
use Rattle.h2_ends.proofs.Names
use Names.{◌==◌, ltb-true, and_parts, false, ◌⊎◌, ◌≡◌, ◌≢◌, inl, inr, ℕ, ◌<◌, Bool, true, List, []}
use Names.{◌∷◌, ◌++◌, length, Option}
use Names.{refl, sym, ◌∙◌, arith, cases_eq, both_ways, and_from, Field, Count, MayAnswer}
use Names.{BodyWaits, EndLog, Token, FieldsToken, OctetToken, EndToken}
use Rattle.std.specs.Prelude.{take, ◌&&◌, nat_le, nat_lt, min, if◌then◌else◌}
use Rattle.std.proofs.Common.{map as each, length-take}
use Rattle.h2_ends.specs.Passes.{Halt, Shares, share_act, shares_octets, shares_some}
use Rattle.h2_ends.specs.Passes.{share_is_cut, shares_rest, shares_trailers, octets_refused}
use Rattle.h2_ends.specs.Passes.{list_refused, share_most, share_size}
use Rattle.h2_ends.specs.declared.span.Turn.{Turn}
use Rattle.h2_ends.specs.Turns.{HasRoomFor, IsNotStopped}
use Rattle.h2_ends.proofs.PumpWindows.{none_without_room}

-- There are no octets, or some.
none_or_some : (octets : List ℕ) → (octets ≡ []) ⊎ (0 < length octets)
none_or_some [] = inl refl
none_or_some (octet ∷ octets) = inr (omega arith)

octets_wait : (end : EndLog) (id : ℕ) (octets : List ℕ) (ends : Bool)
    → BodyWaits end id octets ends → 0 < length octets
octets_wait end id octets ends waits = elim (none_or_some octets) [
  | inl none ↦ absurd (waits.some none)
  | inr more ↦ more
]

-- Octets are no trailers.
octets_no_list : (tokens : List Token) (octets : List ℕ) (tail : List Token) (list : List Field)
    → octets ≢ [] → tokens ≡ each OctetToken octets ++ tail
    → tokens ≡ FieldsToken list true ∷ EndToken ∷ [] → ⊥
octets_no_list tokens [] tail list some is also = some refl
octets_no_list tokens (octet ∷ rest) tail list some is also =
    let wrong = sym is ∙ also in cc

module _ (turn : Turn) (most id : ℕ) (end : EndLog) (room : HasRoomFor end id) where
  -- A share has one octet at least.
  abbrev size : ℕ
  size = share_size turn most id

  some_size : 0 < size
  some_size = by_rest (id == turn.id && nat_lt 0 turn.rest) refl
    where
      by_rest : (b : Bool) → (id == turn.id && nat_lt 0 turn.rest) ≡ b
          → 0 < (if b then min turn.rest (share_most most) else share_most most)
      by_rest true is =
          let some = ltb-true 0 turn.rest (and_parts _ _ is).1 in omega (arith, some)
      by_rest false is = omega arith

  -- As many went as windows let through, and they let one through.
  octets_went : (octets : List ℕ) (ends : Bool) (sent : ℕ) → BodyWaits end id octets ends
      → MayAnswer end.log (share_act size id octets ends) (Count sent) → 0 < sent
  octets_went octets ends sent waits may = elim (cases_eq sent 0) [
    | inl none ↦
        let length_is = length-take size octets in
        let more = octets_wait end id octets ends waits in
        let one = some_size in
        absurd (both_ways _ (none_without_room end.log id (take size octets)
        (ends && nat_le (length octets) size) (rw none at may)
        (λ zero. omega (arith, length_is, more, zero, one))) (and_from _ _ room.0 room.1))
    | inr other ↦ omega (arith, other)
  ]

  pub share_sends : (count : ℕ) (halt : Option Halt) (after : EndLog) (octets : List ℕ)
      (ends : Bool) → Shares size id end count halt after
      → BodyWaits end id octets ends → IsNotStopped halt → 0 < count
  share_sends _ _ _ octets ends (shares_octets _ all ended sent typed waits may whole more) body
      on =
      octets_went all ended sent waits may
  share_sends _ _ _ octets ends (shares_some _ all ended sent typed waits may fewer over) body on =
      octets_went all ended sent waits may
  share_sends _ _ _ octets ends (share_is_cut _ all ended sent typed waits may fewer over) body
      on =
      octets_went all ended sent waits may
  share_sends _ halt after octets ends (shares_rest _ all _ _ typed waits may few rest) body on =
      octets_wait end id all false waits
  share_sends _ _ _ octets ends (shares_trailers _ list typed wait may) body on =
      absurd (octets_no_list _ octets _ list body.some body.waits wait)
  share_sends _ _ _ octets ends (octets_refused _ all ended refusal typed waits may) body on =
      absurd (on refusal _ refl)
  share_sends _ _ _ octets ends (list_refused _ list refusal typed wait may) body on =
      absurd (on refusal _ refl)
