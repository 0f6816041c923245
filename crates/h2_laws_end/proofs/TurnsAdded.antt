-- The turns that `take` and the other calls add to a log.
use Rattle.h2_laws_end.proofs.Names
use Names.{◌≡◌, ℕ, Bool, true, false, List, [], ◌∷◌, ◌++◌, refl, sym, ap, ◌∙◌, append_assoc, Code}
use Names.{Event, Act, Answer, Turn, In, Out, Happened, TakeCalled, TakeAnswered, Log, with_failure}
use Names.{called, with_call, holds_failure, TakeAnswer, MayTake, has_failed, reports_unprocessed}
use Names.{ends_no_frame, ends_frame, meets_fault, runs_out_of_memory, Called, Answered, used}
use Names.{holds_call, holds_used, holds_frame, holds_none}
use Rattle.std.proofs.Common.{map}
use Rattle.h2_laws_log.proofs.GrowthBySteps.{HoldsOfFailures, HoldsOfReads}

-- All turns pass.
abbrev pub AllPass : (Turn → Bool) → List Turn → Type 0
AllPass p [] = Unit {0}
AllPass p (turn ∷ turns) = (p turn ≡ true) × AllPass p turns

-- The second log has more turns, which all pass.
pub record Adds (p : Turn → Bool) (log next : Log) : Type 0 where
  pub news : List Turn
  pub turns : next.turns ≡ news ++ log.turns
  pub pass : AllPass p news

-- what is written
abbrev pub is_output : Turn → Bool
is_output (Out octets) = true
is_output other = false

-- what happens inside of `take`
abbrev pub is_of_take : Turn → Bool
is_of_take (Out octets) = true
is_of_take (In octets) = true
is_of_take (Happened event) = true
is_of_take (Called act) = false
is_of_take (Answered answer) = false
is_of_take (TakeCalled octets) = false
is_of_take (TakeAnswered fault) = false

-- Two lists of turns that all pass.
both_pass : (p : Turn → Bool) (more turns : List Turn) → AllPass p more → AllPass p turns
    → AllPass p (more ++ turns)
both_pass p [] turns here there = there
both_pass p (turn ∷ more) turns here there = (here.0, both_pass p more turns here.1 there)

-- A log that adds no turn.
pub adds_none : (p : Turn → Bool) (log next : Log) → next.turns ≡ log.turns → Adds p log next
adds_none p log next same = record { news = []; turns = same; pass = tt }

-- A log that adds one.
pub adds_one : (p : Turn → Bool) (turn : Turn) (log next : Log) → next.turns ≡ turn ∷ log.turns
    → p turn ≡ true → Adds p log next
adds_one p turn log next same passes =
    record { news = turn ∷ []; turns = same; pass = (passes, tt) }

-- One step after another.
pub adds_twice : (p : Turn → Bool) (one two three : Log) → Adds p one two → Adds p two three
    → Adds p one three
adds_twice p one two three a b = record {
  news = b.news ++ a.news;
  turns = b.turns ∙ ap (λ (turns : List Turn). b.news ++ turns) a.turns
      ∙ sym (append_assoc b.news a.news one.turns);
  pass = both_pass p b.news a.news b.pass a.pass;
}

-- Where output passes, what is written adds turns that pass.
adds_written : (p : Turn → Bool) → ((octets : List ℕ) → p (Out octets) ≡ true)
    → HoldsOfFailures (Adds p)
adds_written p outs = record {
  writes = record {
    none = λ log. adds_none p log log refl;
    twice = λ one two three a b. adds_twice p one two three a b;
    sent = λ log item items. adds_one p (Out _) log _ refl (outs _);
    unreturned = λ log count. adds_none p log _ refl;
  };
  failed = λ log code. adds_none p log _ refl;
}

-- After a call and its answer stands output alone.
pub adds_call : (log : Log) (act : Act) (answer : Answer)
    → Adds is_output (called log act answer) (with_call log act answer)
adds_call log act answer =
    holds_call (Adds is_output) (record {
      failures = adds_written is_output (λ octets. refl);
      given = λ log more. adds_none is_output log _ refl;
    }) log act answer

-- Events all happen inside of `take`.
pub events_pass : (events : List Event) → AllPass is_of_take (map Happened events)
events_pass [] = tt
events_pass (event ∷ events) = (refl, events_pass events)

-- So do all steps of `take`.
adds_read : HoldsOfReads (Adds is_of_take)
adds_read = record {
  failures = adds_written is_of_take (λ octets. refl);
  used = λ log octets unparsed. adds_one is_of_take (In octets) log _ refl refl;
  framed = λ log frames. adds_none is_of_take log _ refl;
  begun = λ log begun. adds_none is_of_take log _ refl;
  read = λ log decoded item. adds_none is_of_take log _ refl;
  reported = λ log event events. record {
    news = map Happened (event ∷ events);
    turns = refl;
    pass = events_pass (event ∷ events);
  };
}

-- Octets are used, and the connection fails.
adds_fault : (log : Log) (octets : List ℕ) (code : Code) (last : ℕ)
    → Adds is_of_take log (with_failure code last (used log octets []))
adds_fault log octets code last =
    adds_twice is_of_take log (used log octets []) _
    (holds_used (Adds is_of_take) adds_read log octets [])
    (holds_failure (Adds is_of_take) adds_read.failures code last (used log octets []))

-- A call of `take` adds what happens inside of it.
pub adds_take : (log after : Log) (piece : List ℕ) (answer : TakeAnswer)
    → MayTake log piece answer after → Adds is_of_take log after
adds_take log after piece answer (has_failed code failed answers same) =
    rw same (adds_none is_of_take log log refl)
adds_take log after piece answer (reports_unprocessed up some answers same) =
    rw same (holds_none (Adds is_of_take) adds_read log)
adds_take log after piece answer (ends_no_frame takes unparsed part answers same) =
    rw same (holds_used (Adds is_of_take) adds_read log piece unparsed)
adds_take log after piece answer
    (ends_frame takes octets unused joined frame decoded framed sees same answers) =
    rw same (adds_twice is_of_take log (used log octets []) _
    (holds_used (Adds is_of_take) adds_read log octets [])
    (holds_frame (Adds is_of_take) adds_read _ decoded frame))
adds_take log after piece answer (meets_fault takes octets unused joined fault at answers same) =
    rw same (adds_fault log octets _ _)
adds_take log after piece answer (runs_out_of_memory up octets unused joined may answers same) =
    rw same (adds_fault log octets _ _)
