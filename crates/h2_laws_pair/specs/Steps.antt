-- Steps at one end of a pair, one after another, as a call of `take` makes them.
use Rattle.std.specs.Prelude.{◌≡◌, ℕ, List, ◌++◌, length}
use Rattle.h2_spec_log.specs.Log.{Log}
use Rattle.h2_laws_end.specs.Takes.{TakeAnswer, Took, Failed}
use Rattle.h2_laws_pair.specs.Pairs.{Half, HalfStep}
use Rattle.h2_laws_pair.specs.Undisturbed.{IsUndisturbedStep}

-- Steps at one end, and what they make of it and of the other one.
pub data HalfSteps : (one other : Half) → (new_one new_other : Half) → Type 0 where
  no_step : (one other : Half) → HalfSteps one other one other
  then_step : {one other mid mid_other new new_other : Half}
      → HalfSteps one other mid mid_other → HalfStep mid mid_other new new_other
      → HalfSteps one other new new_other

-- In none of them memory was refused, or made the layer above the connection fail.
unfoldable pub AreUndisturbed : {one other new new_other : Half}
    → HalfSteps one other new new_other → Type 0
AreUndisturbed (no_step one other) = Unit {0}
AreUndisturbed (then_step before step) = AreUndisturbed before × IsUndisturbedStep _ _ step

-- So many octets were used, where the answer says how many.
abbrev pub UsesOctets : TakeAnswer → ℕ → Type 0
UsesOctets (Took count event) n = n ≡ count
UsesOctets (Failed code) n = Unit {0}

-- A call of `take` with a piece that lies first on the pipe to this end is made of steps of the
-- pair; what it has not used lies on the pipe still.
pub record TakesInPair (one other : Half) (piece later : List ℕ) (answer : TakeAnswer)
    (after : Log) : Type 0 where
  pub octets : List ℕ
  pub unused : List ℕ
  pub joined : piece ≡ octets ++ unused
  pub used : UsesOctets answer (length octets)
  pub steps : HalfSteps one other (record one { log = after; incoming = unused ++ later }) other
