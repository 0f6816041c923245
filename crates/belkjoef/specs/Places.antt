-- What a place of C's owns.
use Rattle.std.specs.Prelude.{ℕ, ◌==◌, Bool, false, Option, None, Some}
use base.Fml.{Fml, feq, fsep}
use denote.RattleType.{RattleType}
use denote.RawPtr.{Ptr}
use Rattle.libc.specs.Heap.{chunk}
use Rattle.std_alloc.specs.Box.Ownership.{box_owns}

-- the state of a place that holds an end: "belkjoef" in ASCII
abbrev pub holds_one : ℕ
holds_one = 0x62656c6b6a6f6566

-- Where it holds an end, its state is that number, and it owns the block of the heap with that end.
-- Where its state is another number, it holds nothing, and owns nothing.
-- rule: c (own) A place holds an end or nothing, and each call says which
abbrev pub place_owns : (R : RattleType) → Ptr → ℕ → Option R.Denot → Fml
place_owns R at state None = feq Bool (state == holds_one) false
place_owns R at state (Some end) = fsep (feq ℕ state holds_one) (box_owns chunk R at end)
