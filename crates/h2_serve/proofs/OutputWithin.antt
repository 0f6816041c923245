-- No step of a server with its handler gives more of the output out than was written.
use Rattle.h2_engines.proofs.Names
use Names.{◌≡◌, ◌≢◌, ◌≤◌, ℕ, ◌+◌, Bool, List, [], length, take, refl, ap, arith, length-append, Act}
use Names.{Answer, PutOut, Count, Refusal, Refused, Refuse, Log, EndLog, inl, inr, ◌⊎◌, Memory}
use Names.{EndAnswer, EndMayTake, Handed, MayAnswer, accepts, refuses, lacks, fails, with_call}
use Rattle.std.proofs.lemmas.List.{length-take}
use Rattle.h2_spec_log.specs.CallRules.{may_fail_for_memory}
use Rattle.h2_engines.proofs.ResponderOutput.{put_out_octets}
use Rattle.h2_engines.proofs.ServeLinkLogs.{call_writes, take_writes, Writes}
use Rattle.h2_engines.proofs.TakeMessages.{holds_called, taken_says}
use Rattle.h2_engines.proofs.WithoutLinkOutput.{puts_out}
use Rattle.h2_server.specs.Exchanges.{Handling, Relations}
use Rattle.h2_server.specs.Steps.{Steps}
use Rattle.h2_serve.proofs.StepsKeep.{PutsSo, steps_keep}

-- No more is given out than was written.
abbrev IsWithin : Log → Type 0
IsWithin log = log.given ≤ length log.written

-- So it is where octets are added to the output, and as many were given out,
within_writes : {log after : Log} → Writes log after → IsWithin log → IsWithin after
within_writes {log} writes within =
    rw (writes.given, writes.written) (omega (arith, within, length-append {A = ℕ}))

-- by a call that puts none out,
within_other : (log : Log) (act : Act) (answer : Answer) → ((count : ℕ) → act ≢ PutOut count)
    → IsWithin log → IsWithin (with_call log act answer)
within_other log act answer other within = within_writes (call_writes log act answer other) within

-- and by one that puts some out, or is refused.
within_given : (log : Log) (count given : ℕ) → MayAnswer log (PutOut count) (Count given)
    → IsWithin log → IsWithin (with_call log (PutOut count) (Count given))
unfolding with_call
within_given log count given may within =
    let after = with_call log (PutOut count) (Count given) in
    let puts = puts_out {log = log} {count = count} {given = given} []
    (put_out_octets log count given) within may refl in
    omega (
      arith,
      within,
      ap (λ (octets : List ℕ). length octets) puts.next,
      puts.counted,
      length-take (log.given + given) after.written,
      length-take log.given log.written,
      length-append (take log.given log.written) puts.octets,
    )

within_refused : (log : Log) (count : ℕ) (refusal : Refusal) → IsWithin log
    → IsWithin (with_call log (PutOut count) (Refused refusal))
unfolding with_call
within_refused log count refusal within = within

-- Such a call has no other answer.
puts_answer : {log : Log} {count : ℕ} {answer : Answer} → MayAnswer log (PutOut count) answer
    → ((given : ℕ) × (answer ≡ Count given)) ⊎ ((refusal : Refusal) × (answer ≡ Refused refusal))
unfolding may_fail_for_memory
puts_answer (accepts none is) = inl (_, is)
puts_answer (refuses refusal some is) = inr (refusal, is)
puts_answer (lacks none may is) = inr (Memory, is)
puts_answer (fails none may is) = absurd (cc)

within_put : (log : Log) (count : ℕ) (answer : Answer) → MayAnswer log (PutOut count) answer
    → IsWithin log → IsWithin (with_call log (PutOut count) answer)
within_put log count answer may within = elim (puts_answer may) [
  | inl (given, is) ↦ rw is (within_given log count given (rw is at may) within)
  | inr (refusal, is) ↦ rw is (within_refused log count refusal within)
]

within_call : (log : Log) (act : Act) (answer : Answer) → PutsSo log act answer → IsWithin log
    → IsWithin (with_call log act answer)
within_call log (PutOut count) answer may within = within_put log count answer may within
within_call log act answer puts within = within_other log act answer (λ count same. cc) within

-- A take puts none out.
within_take : (before : EndLog) (piece : List ℕ) (answer : EndAnswer) (after : EndLog)
    → EndMayTake before piece answer after → IsWithin before.log → IsWithin after.log
within_take before piece answer after may within =
    let is = taken_says may in
    holds_called IsWithin is (within_writes (take_writes is.takes) within)
    (λ log id code said was. within_other log (Refuse id code) said (λ count same. cc) was)

pub steps_within : {H W : Type 0} {rel : Relations H W} {loses : Bool} {used given : List ℕ}
    {end after : EndLog} {old new : Handling H W} → Steps rel loses after new used given end old
    → end.log.given ≤ length end.log.written → after.log.given ≤ length after.log.written
steps_within made within =
    steps_keep (λ (log : Log) (handed : List Handed). IsWithin log)
    (λ log handed act answer puts was. within_call log act answer puts was) within_take made within
