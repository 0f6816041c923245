-- What a connection gives out where its output is made ready, and where some of it was written.
use Rattle.std.proofs.Common.{◌≡◌, ◌∙◌, ap, refl, sym, subst, arith, append-nil, take-add, take}
use Rattle.std.proofs.Common.{◌≤◌, ◌+◌, drop, min, if◌then◌else◌, length-take}
use Rattle.std.proofs.lemmas.List.{take-append-le, take_min, length-drop}
use Rattle.std.proofs.Math.Seq.{drop-append_seam}
use Rattle.std.specs.Prelude.{ℕ, List, [], ◌++◌, length, Result, Ok, Err, false, is_err, true}
use Rattle.h2_spec_log.specs.declared.refusal.Refusal.{Refusal}
use Rattle.h2_spec_log.specs.Acts.{Values, Answer, PutOut, Count}
use Rattle.h2_spec_log.specs.CallRules.{returns_before_put_out, update_size}
use Rattle.h2_spec_log.specs.Log.{Log, waiting, output}
use Rattle.h2_spec_log.specs.LogView.{log_view}
use Rattle.h2_spec_log.specs.LogCalls.{MayAnswer, with_call, accepts, refuses, lacks, fails}
use Rattle.h2_laws_pair.specs.Pairs.{given_out}
use Rattle.h2_laws_pair.proofs.LogOutput.{gives_call}
use Rattle.h2_conn.specs.Conn.{answer_by, octets_queued}
use Rattle.h2_ends.specs.declared.end.End.{End}
use Rattle.h2_ends.specs.Ends.{EndLog}
use Rattle.h2_ends.specs.EndTakes.{end_with_log}
use Rattle.h2_ends.specs.Represents.{EndAnswers, EndRepresents}
use Rattle.h2_server.specs.Exchanges.{Handling, Relations}
use Rattle.h2_server.specs.Steps.{Steps, given_between, puts_out}
use Rattle.h2_server.proofs.StepsMade.{one_step, same}

-- As many octets are put out as were asked for, where so many wait.
pub as_many : {log : Log} {count given : ℕ} → MayAnswer log (PutOut count) (Count given)
    → count ≤ waiting log → given ≡ count
as_many {log} {count} {given} (accepts none is) few =
    let same : given ≡ min count
    (waiting log + (if returns_before_put_out (log_view log) then update_size else 0)) = cc in
    omega (arith, few, same)
as_many (refuses refusal some is) few = absurd (cc)
as_many (lacks none may is) few = absurd (cc)
as_many (fails none may is) few = absurd (cc)

-- They are the first ones that waited.
first_given : (log : Log) (count given : ℕ) → log.given ≤ length log.written
    → MayAnswer log (PutOut count) (Count given) → count ≤ length (drop log.given log.written)
    → given_out (with_call log (PutOut count) (Count given))
    ≡ given_out log ++ take count (drop log.given log.written)
unfolding with_call waiting output
first_given log count given within may few =
    let more = gives_call log (PutOut count) (Count given) in
    let after = with_call log (PutOut count) (Count given) in
    let size = length-drop log.given log.written in
    let many : given ≡ count = as_many may (omega (arith, few, size)) in
    let place : after.given ≡ log.given + count = ap (λ (n : ℕ). log.given + n) many in
    ap (λ (n : ℕ). take n after.written) place
    ∙ ap (λ (octets : List ℕ). take (log.given + count) octets) more.written
    ∙ take-append-le (log.given + count) log.written more.octets (omega (arith, few, size, within))
    ∙ take-add log.given count log.written

-- None are given out by a call that is refused.
none_given : (log : Log) (count : ℕ) (refusal : Refusal)
    → given_out (with_call log (PutOut count)
    (answer_by {A = ℕ} (λ given. Count given) (Err refusal))) ≡ given_out log ++ []
unfolding with_call
none_given log count refusal = sym (append-nil (given_out log))

-- Such steps were made, in which none were used and these octets were given out.
abbrev pub Gives : {H W : Type 0} → Relations H W → (gone : List ℕ) → (one two : End)
    → Handling H W → Type 0
Gives rel gone one two a =
    (values : Values) (end : EndLog) → EndRepresents values one end
    → (after : EndLog) × Steps rel false after a [] gone end a × EndRepresents values two after

module _ {H W : Type 0} {rel : Relations H W} where
  -- A call that puts output out has given out these octets, where they are what it gives next.
  puts_next : (one two : End) (a : Handling H W) (octets : List ℕ) (count : ℕ) (answer : Answer)
      → EndAnswers one (PutOut count) answer two
      → ((values : Values) (end : EndLog) → EndRepresents values one end
      → MayAnswer end.log (PutOut count) answer
      → given_out (with_call end.log (PutOut count) answer) ≡ given_out end.log ++ octets)
      → Gives rel octets one two a
  puts_next one two a octets count answer answers next values end is =
      let made = answers values end is in
      let after = end_with_log end (with_call end.log (PutOut count) answer) in
      let between : given_between end after ≡ octets =
      ap (λ (all : List ℕ). drop (length (given_out end.log)) all) (next values end is made.0)
      ∙ drop-append_seam (given_out end.log) octets in (
        after,
        subst (λ (given : List ℕ). Steps rel false after a [] given end a) between
            (one_step (puts_out count answer made.0 refl (same a))),
        made.1,
      )

  -- Where output is made ready none is given out;
  pub ready_gives : (one two : End) (a : Handling H W) (result : Result (Unit {0}) Refusal)
      → EndAnswers one (PutOut 0) (answer_by (λ done. Count 0) result) two → Gives rel [] one two a
  ready_gives one two a (Ok done) answers =
      puts_next one two a [] 0 (Count 0) answers (λ values end is may.
      first_given end.log 0 0 is.streams.conn.machine.output.given may (omega arith))
  ready_gives one two a (Err refusal) answers =
      puts_next one two a [] 0 _ answers (λ values end is may. none_given end.log 0 refusal)

  -- where some was written these are the first octets that waited,
  gone_gives : (one two : End) (a : Handling H W) (count given : ℕ)
      → EndAnswers one (PutOut count) (Count given) two
      → count ≤ length (octets_queued one.conn)
      → Gives rel (take count (octets_queued one.conn)) one two a
  gone_gives one two a count given answers few =
      let queue = octets_queued one.conn in
      puts_next one two a (take count queue) count (Count given) answers (λ values end is may.
      let output = is.streams.conn.machine.output in
      let queued : queue ≡ drop end.log.given end.log.written = output.waiting in
      first_given end.log count given output.given may
      (subst (λ (octets : List ℕ). count ≤ length octets) queued few)
      ∙ ap (λ (octets : List ℕ). given_out end.log ++ take count octets) (sym queued))

  -- and none where that is refused.
  refused_gives : (one two : End) (a : Handling H W) (count : ℕ) (refusal : Refusal)
      → EndAnswers one (PutOut count) (answer_by {A = ℕ} (λ given. Count given) (Err refusal)) two
      → Gives rel [] one two a
  refused_gives one two a count refusal answers =
      puts_next one two a [] count _ answers (λ values end is may. none_given end.log count refusal)

  -- So none are where the call for it was refused,
  pub unremoved_gives : (one two : End) (a : Handling H W) (count : ℕ)
      (result : Result ℕ Refusal) → is_err result ≡ true
      → EndAnswers one (PutOut count) (answer_by (λ given. Count given) result) two
      → Gives rel [] one two a
  unremoved_gives one two a count (Ok given) some answers = absurd (cc)
  unremoved_gives one two a count (Err refusal) some answers =
      refused_gives one two a count refusal answers

  -- and where it was not, as many of the first ones as were asked for.
  pub removed_gives : (one two : End) (a : Handling H W) (count gone waits : ℕ)
      (result : Result ℕ Refusal) → is_err result ≡ false
      → EndAnswers one (PutOut gone) (answer_by (λ given. Count given) result) two
      → waits ≡ length (octets_queued one.conn) → gone ≡ min count waits
      → Gives rel (take count (octets_queued one.conn)) one two a
  removed_gives one two a count gone waits (Err refusal) none answers size is = absurd (cc)
  removed_gives one two a count gone waits (Ok given) none answers size is =
      let queue = octets_queued one.conn in
      let least : gone ≡ min count (length queue) = is ∙ ap (λ (n : ℕ). min count n) size in
      subst (λ (octets : List ℕ). Gives rel octets one two a)
      (ap (λ (n : ℕ). take n queue) least ∙ take_min count queue)
      (gone_gives one two a gone given answers (omega (arith, least)))

-- So many are those.
pub gone_size : (queue : List ℕ) (count gone waits : ℕ) → waits ≡ length queue
    → gone ≡ min count waits → gone ≡ length (take count queue)
gone_size queue count gone waits size is =
    is ∙ ap (λ (n : ℕ). min count n) size ∙ sym (length-take count queue)
