-- What holds with credit returned, and holds without, holds where a log makes more credit due, and
-- before it puts output out.
use Rattle.std.proofs.Common.{◌≡◌, ℕ, ◌+◌, Bool, true, false, if◌then◌else◌}
use Rattle.h2_spec_log.specs.CallRules.{returns_before_put_out}
use Rattle.h2_laws_log.proofs.Names.{cond_both, Log, waiting, log_view, returns_credit}
use Rattle.h2_laws_log.proofs.Names.{with_unreturned, with_credit_returned, before_put_out}

-- What holds of one pair and of another holds of the pair that a test takes.
pub both_by : {A B : Type 0} (R : A → B → Type 0) (b : Bool) {x y : A} {v w : B} → R x v → R y w
    → R (if b then x else y) (if b then v else w)
both_by R true one other = one
both_by R false one other = other

-- More is unreturned: all of it is returned, or none.
pub credit_cases : (P : Log → Type 0) (more : ℕ) (log : Log)
    → (returns_credit more (waiting log) ≡ true
    → P (with_credit_returned (record log { unreturned = log.unreturned + more })))
    → (returns_credit more (waiting log) ≡ false
    → P (record log { unreturned = log.unreturned + more }))
    → P (with_unreturned more log)
unfolding with_unreturned
credit_cases P more log = cond_both (returns_credit more (waiting log)) _ _ P

-- Before output is put out, what is unreturned is returned, or not.
pub put_out_cases : (P : Log → Type 0) (log : Log)
    → (returns_before_put_out (log_view log) ≡ true → P (with_credit_returned log))
    → (returns_before_put_out (log_view log) ≡ false → P log)
    → P (before_put_out log)
unfolding before_put_out
put_out_cases P log = cond_both (returns_before_put_out (log_view log)) _ _ P
