-- Facts of tests, and of values that may be there, which the standard library lacks.
use Rattle.hpack.proofs.Names.{◌≡◌, Bool, true, false, not, ◌&&◌, Option, None, Some, refl, sym, ap}
use Rattle.std.specs.Option.{is_some}

-- A value that isn't there is none.
pub none_since : {A : Type 0} (value : Option A) → is_some value ≡ false → value ≡ None
none_since None none = refl
none_since (Some it) none = cc

-- A test whose opposite fails holds.
pub not_false : (test : Bool) → not test ≡ false → test ≡ true
not_false true is = refl
not_false false is = cc

-- The opposite of the opposite is the test.
pub not_back : (one other : Bool) → one ≡ not other → other ≡ not one
not_back one true is = ap not (sym is)
not_back one false is = ap not (sym is)

-- Nothing holds together with what fails.
pub and_false : (test : Bool) → (test && false) ≡ false
and_false true = refl
and_false false = refl
