-- What a call that puts output out, and writing its octets to a link, make of an end and of what
-- has gone over the link.
use Rattle.h2_engines.proofs.Names
use Names.{◌≡◌, ◌≤◌, ℕ, List, [], ◌++◌, length, take, drop, refl, sym, ap, ◌∙◌, subst, append_assoc}
use Names.{append-nil, Appends, Appends-trans, Refusal, Values, Act, Answer, Refused, Log}
use Names.{Keeps-call, given_out, End, EndLog, end_with_log, EndRepresents, Traffic, HasGiven}
use Names.{IsLinked, IsSameOfMessages, with_call, HasTakenFirst, take-append-drop}
use Rattle.h2_engines.proofs.TakeMessages.{keeps_by_call}

-- Nothing has happened, or nothing twice.
pub same_itself : (end : EndLog) → IsSameOfMessages end end
same_itself end =
    record {
      accepted = refl;
      handed = refl;
      calls = λ act answer was. was;
      failed = refl;
      used = refl;
    }

pub same_twice : {one two three : EndLog} → IsSameOfMessages one two → IsSameOfMessages two three
    → IsSameOfMessages one three
same_twice first then =
    record {
      accepted = then.accepted ∙ first.accepted;
      handed = then.handed ∙ first.handed;
      calls = λ act answer was. then.calls act answer (first.calls act answer was);
      failed = then.failed ∙ first.failed;
      used = then.used ∙ first.used;
    }

-- A call of the connection that fails nothing changes nothing of messages.
pub same_by_call : (end : EndLog) (act : Act) (answer : Answer)
    → (with_call end.log act answer).failed ≡ end.log.failed
    → IsSameOfMessages end (end_with_log end (with_call end.log act answer))
same_by_call end act answer failed =
    record {
      accepted = refl;
      handed = refl;
      calls = keeps_by_call end.log act answer;
      failed = failed;
      used = (Keeps-call end.log act answer).input;
    }

-- No more was given out than was written.
pub given_within : {values : Values} {end : End} {happened : EndLog}
    → EndRepresents values end happened → happened.log.given ≤ length happened.log.written
given_within represents = represents.streams.conn.machine.output.given

-- The link gives nothing where octets are written to it.
pub gives_as : (start before now : Traffic) (log after : Log) (unused : List ℕ)
    → after.input ≡ log.input → Appends before.given now.given []
    → HasGiven start before log unused → HasGiven start now after unused
gives_as start before now log after unused same none given =
    let nothing : (log.input ++ unused) ++ [] ≡ after.input ++ unused = append-nil
    (log.input ++ unused) ∙ ap (λ (octets : List ℕ). octets ++ unused) (sym same) in
    subst (Appends start.given now.given) nothing (Appends-trans _ _ now.given _ [] given none)

-- It has taken all that was given out since.
pub linked_by : {start before : Traffic} (now : Traffic) {log : Log} (after : Log)
    (octets : List ℕ) {unused : List ℕ} → after.input ≡ log.input
    → given_out after ≡ given_out log ++ octets → Appends before.given now.given []
    → Appends before.taken now.taken octets → IsLinked start before log unused
    → IsLinked start now after unused
linked_by {start} {before} now {log} after octets {unused} same more none took linked =
    record {
      given = gives_as start before now log after unused same none linked.given;
      taken = rw more (Appends-trans _ _ now.taken _ octets linked.taken took);
    }

-- Or the first octets of it.
pub takes_first : (start before now : Traffic) (log after : Log) (octets : List ℕ) (count : ℕ)
    → given_out after ≡ given_out log ++ octets
    → Appends before.taken now.taken (take count octets)
    → Appends start.taken before.taken (given_out log) → HasTakenFirst start now after
takes_first start before now log after octets count more took taken =
    let rest = drop after.given after.written in
    let both : octets ≡ take count octets ++ drop count octets = sym (take-append-drop _ _) in
    let all : after.written ≡ (given_out log ++ octets) ++ rest = sym
    (take-append-drop after.given after.written) ∙ ap (λ (first : List ℕ). first ++ rest) more in
    record {
      first = given_out log ++ take count octets;
      rest = drop count octets ++ rest;
      output = all ∙ ap (λ (one : List ℕ). (given_out log ++ one) ++ rest) both ∙ ap
          (λ (one : List ℕ). one ++ rest)
          (sym (append_assoc (given_out log) (take count octets) (drop count octets)))
          ∙ append_assoc (given_out log ++ take count octets) (drop count octets) rest;
      taken = Appends-trans start.taken before.taken now.taken _ _ taken took;
    }

-- What was given out is the beginning of the output.
pub given_first : (start now : Traffic) (log : Log) → Appends start.taken now.taken (given_out log)
    → HasTakenFirst start now log
given_first start now log taken =
    record {
      first = given_out log;
      rest = drop log.given log.written;
      output = sym (take-append-drop log.given log.written);
      taken = taken;
    }

-- So it is after a call that was refused.
pub refused_first : (start now : Traffic) (log : Log) (act : Act) (refusal : Refusal)
    → Appends start.taken now.taken (given_out log)
    → HasTakenFirst start now (with_call log act (Refused refusal))
unfolding with_call
refused_first start now log act refusal taken = given_first _ _ _ taken
