-- What a call that puts output out makes of a log: its octets are the next ones of the output; and
-- where it puts none out, none waits.
use Rattle.h2_engines.proofs.Names.{◌≡◌, ◌≤◌, ℕ, ◌+◌, List, ◌++◌, length, take, drop, PutOut, Count}
use Rattle.h2_engines.proofs.Names.{Log, given_out, with_call, call_failed}
use Rattle.h2_laws_pair.proofs.LogOutput.{gives_call}
use Rattle.h2_laws_pair.proofs.CarriedOctets.{given_more as gives_more}

-- The connection is as up as before, whether credit is returned first or not.
pub put_out_failed : (log : Log) (count given : ℕ)
    → (with_call log (PutOut count) (Count given)).failed ≡ log.failed
put_out_failed log count given =
    call_failed _ _ (Count given) (λ id code is. cc) (λ code is. cc) (λ is. cc)

-- the octets that a call puts out of the output
abbrev pub put_out_octets : Log → (count given : ℕ) → List ℕ
put_out_octets log count given =
    drop log.given (take (log.given + given) (with_call log (PutOut count) (Count given)).written)

-- They are given out next.
pub given_more : (log : Log) (count given : ℕ) → log.given ≤ length log.written
    → given_out (with_call log (PutOut count) (Count given))
    ≡ given_out log ++ put_out_octets log count given
unfolding with_call
given_more log count given within =
    gives_more _ _ within (gives_call log (PutOut count) (Count given))
