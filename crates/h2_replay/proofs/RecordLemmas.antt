-- A replay with one act more.
use Rattle.h2_replay.proofs.Names.{◌≡◌, ℕ, ◌+◌, ◌≤◌, List, [], ◌∷◌, ◌++◌, length, take, drop}
use Rattle.h2_replay.proofs.Names.{Option, refl, sym, ap, subst, ◌∙◌, append_assoc, append-nil}
use Rattle.h2_replay.proofs.Names.{drop-take, Code, Role, Values, Out, shown, TakeAnswered, Act}
use Rattle.h2_replay.proofs.Names.{Answer, IsTypedAct, OutOfMemory, Number, Count, Done, Refused}
use Rattle.h2_replay.proofs.Names.{Log, with_call, ReplayAct, Take, Make, IsReplay, starts, takes}
use Rattle.h2_replay.proofs.Names.{calls, Conn, ConnRepresents, turn_value, each_octet, by_octets}
use Rattle.h2_replay.proofs.Names.{ReplayTakesOctets, call_of, MakesCall, Records, waiting, output}
use Rattle.h2_replay.proofs.Names.{with_sent, opened, acts_made, all_by_octets, kept_by_octets}
use Rattle.h2_spec_log.specs.Acts.{Called, Answered, TakeCalled, AreInRange, Turn}
use Rattle.h2_replay.specs.Values.{act_value, answer_turn, call_turn}
use Rattle.std.proofs.lemmas.List.{drop-drop, take-append-drop}
use Rattle.h2_spec_log.specs.Histories.{IsLog, begins, took_some, took_one, met_fault, called_one}
use Rattle.h2_spec_log.specs.Histories.{ran_out_of_memory, reported_one}
use Rattle.h2_replay.specs.Taking.{IsTakeAnswer, fault_of_answer}
use Rattle.h2_replay.specs.Calls.{IsCall, MakesCallOf, answer_value}
use Rattle.h2_replay.proofs.StepOutput.{all_joined, writes_call, given_by}
use Rattle.h2_replay.proofs.TakingLemmas.{kept_more, kept_joined, joined_since}
use Rattle.h2_replay.specs.declared.acts.Act as code
use Rattle.h2_replay.specs.declared.acts.Act.TheVariants as acts
use Rattle.h2_replay.specs.declared.turns.Turn as kept
use Rattle.h2_replay.specs.declared.turns.Answer as answered
use Rattle.h2_replay.specs.declared.turns.Answer.TheVariants as answers

-- How octets that were taken are answered.
answered_alike : (answer : answered.Answer) → IsTakeAnswer answer
    → by_octets (answer_turn answer) ≡ by_octets (TakeAnswered (fault_of_answer answer))
answered_alike answers.Done is = refl
answered_alike (answers.Fault code) is = refl
answered_alike answer is = absurd is

-- The turns of octets that were taken.
take_turns : (octets : List ℕ) (fault : Option Code) (news turns : List Turn)
    → all_by_octets (TakeAnswered fault ∷ news ++ TakeCalled octets ∷ turns)
    ≡ (all_by_octets turns ++ TakeCalled octets ∷ []) ++ (all_by_octets news
    ++ by_octets (TakeAnswered fault))
unfolding all_by_octets
take_turns octets fault news turns =
    all_joined (TakeAnswered fault ∷ news) (TakeCalled octets ∷ turns)

-- Octets are taken.
pub take_records : (role : Role) (values : Values) (acts : List ReplayAct) (octets : List ℕ)
    (answer : answered.Answer) (old one two three news : List kept.Turn) (conn new : Conn)
    (call last : kept.Turn) → by_octets (turn_value call) ≡ TakeCalled octets ∷ []
    → turn_value last ≡ answer_turn answer → one ≡ old ++ call ∷ [] → two ≡ one ++ news
    → three ≡ two ++ last ∷ [] → ReplayTakesOctets conn octets [] answer news new
    → Records role values acts conn old → Records role values (Take octets ∷ acts) new three
unfolding kept_by_octets
take_records role values acts octets answer old one two three news conn new call last calls_it
    answers_it one_is two_is three_is made before =
    let all = made.takes values before.log before.represents in
    let first : kept_by_octets one ≡ all_by_octets before.turns ++ TakeCalled octets ∷ [] =
    ap kept_by_octets one_is ∙ kept_more old call
    ∙ ap (λ (t : List Turn). t ++ by_octets (turn_value call)) before.keeps.same
    ∙ ap (λ (t : List Turn). all_by_octets before.turns ++ t) calls_it in
    let second : kept_by_octets two
    ≡ (all_by_octets before.turns ++ TakeCalled octets ∷ []) ++ all_by_octets all.keeps.news =
    ap kept_by_octets two_is ∙ kept_joined one news
    ∙ ap (λ (t : List Turn). t ++ kept_by_octets news) first
    ∙ ap (λ (t : List Turn). (all_by_octets before.turns ++ TakeCalled octets ∷ []) ++ t)
    all.keeps.same in
    let third : kept_by_octets three
    ≡ ((all_by_octets before.turns ++ TakeCalled octets ∷ []) ++ all_by_octets all.keeps.news)
    ++ by_octets (TakeAnswered (fault_of_answer answer)) =
    ap kept_by_octets three_is ∙ kept_more two last
    ∙ ap (λ (t : List Turn). t ++ by_octets (turn_value last)) second
    ∙ ap (λ (t : Turn). ((all_by_octets before.turns ++ TakeCalled octets ∷ [])
    ++ all_by_octets all.keeps.news) ++ by_octets t) answers_it
    ∙ ap (λ (t : List Turn). ((all_by_octets before.turns ++ TakeCalled octets ∷ [])
    ++ all_by_octets all.keeps.news) ++ t) (answered_alike answer made.answers) in
    record {
      log = all.after;
      turns = TakeAnswered (fault_of_answer answer) ∷ all.keeps.news ++ TakeCalled octets
          ∷ before.turns;
      keeps = record {
        replay = takes before.keeps.replay octets (fault_of_answer answer) all.all all.keeps.news
            all.keeps.turns;
        same = third
            ∙ append_assoc (all_by_octets before.turns ++ TakeCalled octets ∷ [])
            (all_by_octets all.keeps.news) (by_octets (TakeAnswered (fault_of_answer answer)))
            ∙ sym (take_turns octets (fault_of_answer answer) all.keeps.news before.turns);
      };
      represents = all.represents;
    }

-- No answer of a call is a fault.
call_answered : (answer : answered.Answer) (one : Answer) → shown one ≡ answer_value answer
    → answer_turn answer ≡ Answered (shown one)
call_answered (answers.Fault code) one same = absurd (never one same)
  where
    never : (one : Answer) → shown one ≡ OutOfMemory → ⊥
    never (Number id) is = cc
    never (Count count) is = cc
    never Done is = cc
    never OutOfMemory is = cc
    never (Refused refusal) is = cc
call_answered answer one same = ap Answered (sym same)

-- An act that is a call.
pub made_call : (act : code.Act) → IsCall act → act_value act ≡ Make (call_of act)
made_call (acts.Take octets) is = absurd is
made_call act is = refl

-- What was put out, and what is queued after it.
given_and_waiting : (before count after : ℕ) (written : List ℕ) → after ≡ before + count
    → drop before (take after written) ++ drop after written ≡ drop before written
given_and_waiting before count after written is =
    rw is (ap (λ (o : List ℕ). o ++ drop (before + count) written)
    (drop-take before count written)
    ∙ ap (λ (o : List ℕ). take count (drop before written) ++ o)
    (sym (drop-drop count before written))
    ∙ take-append-drop count (drop before written))

-- What has joined the output in a call.
call_joined : (values : Values) (log : Log) (act : Act) (answer : Answer) (octets joined : List ℕ)
    (waited : ℕ) (new : Conn) → (made : MakesCallOf values log act answer octets new)
    → log.given ≤ length log.written → waited ≡ waiting log
    → joined ≡ drop waited (octets ++ drop (with_call log act made.one).given
    (with_call log act made.one).written)
    → joined ≡ (writes_call log act made.one).octets
unfolding waiting output
call_joined values log act answer octets joined waited new made within is are =
    let after = with_call log act made.one in
    let writes = writes_call log act made.one in
    are
    ∙ ap (λ (o : List ℕ). drop waited (o ++ drop after.given after.written)) made.given
    ∙ ap (drop waited) (given_and_waiting log.given (given_by made.one act) after.given
    after.written writes.given)
    ∙ ap (λ (o : List ℕ). drop waited (drop log.given o)) writes.written
    ∙ joined_since waited log.given log.written writes.octets within is

-- The turns of a call.
call_turns : (act : Act) (one : Answer) (octets : List ℕ) (news turns : List Turn)
    → all_by_octets news ≡ each_octet Out octets
    → all_by_octets ((news ++ Answered (shown one) ∷ Called act ∷ []) ++ turns)
    ≡ ((all_by_octets turns ++ Called act ∷ []) ++ Answered (shown one) ∷ [])
    ++ each_octet Out octets
unfolding all_by_octets
call_turns act one octets news turns outs =
    ap all_by_octets (append_assoc news (Answered (shown one) ∷ Called act ∷ []) turns)
    ∙ all_joined news (Answered (shown one) ∷ Called act ∷ turns)
    ∙ ap (λ (t : List Turn). ((all_by_octets turns ++ Called act ∷ []) ++ Answered (shown one)
    ∷ []) ++ t) outs

module _ (role : Role) (values : Values) where
  -- A call is made.
  pub call_records : (acts : List ReplayAct) (act : code.Act) (answer : answered.Answer)
      (old one two three : List kept.Turn) (conn new : Conn) (call last outs : kept.Turn)
      (waited : ℕ) (given joined : List ℕ) → IsCall act → IsTypedAct (call_of act)
      → turn_value call ≡ call_turn (act_value act) → turn_value last ≡ answer_turn answer
      → turn_value outs ≡ Out joined → one ≡ old ++ call ∷ [] → two ≡ one ++ last ∷ []
      → three ≡ two ++ outs ∷ []
      → ((values : Values) (log : Log) → ConnRepresents values conn log → waited ≡ waiting log)
      → ((values : Values) (log : Log) → ConnRepresents values new log → joined ≡ drop waited
      (given ++ drop log.given log.written))
      → MakesCall conn (call_of act) (answer_value answer) given new
      → Records role values acts conn old → Records role values (act_value act ∷ acts) new three
  call_records acts act answer old one two three conn new call last outs waited given joined is
      typed calls_it answers_it outs_it one_is two_is three_is waits joins makes before =
      let log = before.log in
      let made = makes values log before.represents in
      let writes = writes_call log (call_of act) made.one in
      let joined_is : joined ≡ writes.octets =
      call_joined values log (call_of act) (answer_value answer) given joined waited new made
      before.represents.machine.output.given (waits values log before.represents)
      (joins values (with_call log (call_of act) made.one) made.represents) in
      let first : kept_by_octets one ≡ all_by_octets before.turns ++ Called (call_of act) ∷ [] =
      ap kept_by_octets one_is ∙ kept_more old call
      ∙ ap (λ (t : List Turn). t ++ by_octets (turn_value call)) before.keeps.same
      ∙ ap (λ (t : Turn). all_by_octets before.turns ++ by_octets t)
      (calls_it ∙ ap call_turn (made_call act is)) in
      let second : kept_by_octets two ≡ (all_by_octets before.turns ++ Called (call_of act) ∷ [])
      ++ Answered (shown made.one) ∷ [] = ap kept_by_octets two_is ∙ kept_more one last
      ∙ ap (λ (t : List Turn). t ++ by_octets (turn_value last)) first
      ∙ ap (λ (t : Turn). (all_by_octets before.turns ++ Called (call_of act) ∷ []) ++ by_octets t)
      (answers_it ∙ call_answered answer made.one made.shows) in
      let third : kept_by_octets three
      ≡ ((all_by_octets before.turns ++ Called (call_of act) ∷ []) ++ Answered (shown made.one)
      ∷ []) ++ each_octet Out writes.octets = ap kept_by_octets three_is ∙ kept_more two outs
      ∙ ap (λ (t : List Turn). t ++ by_octets (turn_value outs)) second
      ∙ ap (λ (t : Turn). ((all_by_octets before.turns ++ Called (call_of act) ∷ [])
      ++ Answered (shown made.one) ∷ []) ++ by_octets t) outs_it
      ∙ ap (λ (o : List ℕ). ((all_by_octets before.turns ++ Called (call_of act) ∷ [])
      ++ Answered (shown made.one) ∷ []) ++ each_octet Out o) joined_is in
      let news : List Turn = writes.news ++ Answered (shown made.one) ∷ Called (call_of act) ∷ [] in
      let replay : IsReplay role values (Make (call_of act) ∷ acts)
      (with_call log (call_of act) made.one) (news ++ before.turns) =
      calls before.keeps.replay (call_of act) made.one typed made.may news
      (writes.turns ∙ sym (append_assoc writes.news (Answered (shown made.one)
      ∷ Called (call_of act) ∷ []) log.turns)) in
      record {
        log = with_call log (call_of act) made.one;
        turns = news ++ before.turns;
        keeps = record {
          replay = subst (λ (a : ReplayAct). IsReplay role values (a ∷ acts)
              (with_call log (call_of act) made.one) (news ++ before.turns))
              (sym (made_call act is)) replay;
          same = third
              ∙ sym (call_turns (call_of act) made.one writes.octets writes.news before.turns
              writes.outs);
        };
        represents = made.represents;
      }

  -- The values of a log are within their bounds.
  pub in_range_of : (log : Log) → IsLog role values log → AreInRange values
  in_range_of _ (begins in_range) = in_range
  in_range_of _ (took_some {log = log} is may octets unparsed part) = in_range_of log is
  in_range_of _ (took_one {log = log} is may octets frame decoded framed sees) = in_range_of log is
  in_range_of _ (met_fault {log = log} is may octets fault at) = in_range_of log is
  in_range_of _ (ran_out_of_memory {log = log} is up octets may) = in_range_of log is
  in_range_of _ (reported_one {log = log} is up some) = in_range_of log is
  in_range_of _ (called_one {log = log} is act answer typed may) = in_range_of log is

  -- The turns of the opening.
  opening_kept : (out : kept.Turn) (joined : List ℕ) → turn_value out ≡ Out joined
      → joined ≡ drop 0 ([] ++ drop (opened role values).given (opened role values).written)
      → kept_by_octets (out ∷ []) ≡ all_by_octets (opened role values).turns
  unfolding opened with_sent kept_by_octets all_by_octets
  opening_kept out joined is are =
      append-nil (by_octets (turn_value out)) ∙ ap by_octets is ∙ ap (each_octet Out) are

-- A new end.
pub opening_records : (role : Role) (values : Values) (conn : Conn) (out : kept.Turn)
    (joined : List ℕ) (turns : List kept.Turn) → turns ≡ out ∷ [] → turn_value out ≡ Out joined
    → ConnRepresents values conn (opened role values)
    → joined ≡ drop 0 ([] ++ drop (opened role values).given (opened role values).written)
    → Records role values [] conn turns
opening_records role values conn out joined turns are is represents joined_is =
    record {
      log = opened role values;
      turns = (opened role values).turns;
      keeps = record {
        replay = starts (in_range_of _ values (opened role values) represents.machine.came);
        same = ap kept_by_octets are ∙ opening_kept role values out joined is joined_is;
      };
      represents = represents;
    }

-- One more act.
pub one_more_act : (list : List code.Act) (act : code.Act)
    → acts_made (list ++ act ∷ []) ≡ act_value act ∷ acts_made list
unfolding acts_made
one_more_act [] act = refl
one_more_act (first ∷ list) act =
    ap (λ (made : List ReplayAct). made ++ act_value first ∷ []) (one_more_act list act)
