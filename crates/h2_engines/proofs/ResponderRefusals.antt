-- What a call of an end that is refused makes of a connection over a link.
use Rattle.h2_engines.proofs.Names
use Names.{◌≡◌, ℕ, Bool, true, false, length, Some, None, Err, ap, subst, inl, inr, arith}
use Names.{SendFields, full_output, Log, SentMessage, is_head_alone, EndRefusal, EndLog, Traffic}
use Names.{IsWrittenOut, conditions, first_of, output, waiting, MayReply, MayRespond, ◌≢◌, nat_le}
use Names.{RefusesMessage, if◌then◌else◌, refusal_of_message}
use Rattle.std.proofs.lemmas.List.{length-take}
use Rattle.h2_spec_log.specs.declared.refusal.Refusal.TheVariants as reasons
use Rattle.h2_ends.specs.declared.refusal.EndRefusal.TheVariants as refusals

-- Once all output was written, none waits.
pub waits_none : {start now : Traffic} {log : Log} → IsWrittenOut start now log → waiting log ≡ 0
unfolding waiting output
waits_none {log} written = omega (arith, length-take log.given log.written, ap length written.all)

-- Where the fourth of six conditions doesn't hold, no call is refused for it.
fourth_of_six : (a b c d e f : Bool) → d ≡ false
    → (if a then Some reasons.Closed else if b then Some reasons.NoSuchStream
    else if c then Some reasons.Ended else if d then Some reasons.OutputFull
    else if e then Some reasons.ListTooLarge else if f then Some reasons.ListTooLarge else None)
    ≢ Some reasons.OutputFull
fourth_of_six true b c d e f not is = cc
fourth_of_six false true c d e f not is = cc
fourth_of_six false false true d e f not is = cc
fourth_of_six false false false true e f not is = cc
fourth_of_six false false false false true f not is = cc
fourth_of_six false false false false false true not is = cc
fourth_of_six false false false false false false not is = cc

-- Where no output waits, no answer is refused since the output is full.
not_full : (log : Log) (id : ℕ) (message : SentMessage) → waiting log ≡ 0
    → refusal_of_message log (SendFields id message.head (is_head_alone message)) message
    ≢ Some reasons.OutputFull
unfolding conditions first_of
not_full log id message none is = fourth_of_six _ _ _ _ _ _ (ap (nat_le full_output) none) is

refused_otherwise : (log : Log) (id : ℕ) (message : SentMessage) → waiting log ≡ 0
    → RefusesMessage log (SendFields id message.head (is_head_alone message)) message
    reasons.OutputFull → ⊥
refused_otherwise log id message none (inl full) = not_full log id message none full
refused_otherwise log id message none (inr memory) = let wrong = memory.1 in cc

full_is_none : (end : EndLog) (id : ℕ) (message : SentMessage) (after : EndLog)
    → waiting end.log ≡ 0
    → MayRespond end id message (Err (refusals.Conn reasons.OutputFull)) after → ⊥
unfolding MayReply
full_is_none end id message after none may = refused_otherwise end.log id message none may.3

pub answer_not_full : (end : EndLog) (id : ℕ) (message : SentMessage) (refusal : EndRefusal)
    (after : EndLog) → waiting end.log ≡ 0 → MayRespond end id message (Err refusal) after
    → refusal ≢ refusals.Conn reasons.OutputFull
answer_not_full end id message refusal after none may same =
    full_is_none end id message after none
    (subst (λ (one : EndRefusal). MayRespond end id message (Err one) after) same may)
