-- The turns of a replay tell of the octets used, of those written and of the events of its log; and
-- the octets used are those of the acts, up to a failure.
use Rattle.h2_laws_end.proofs.Names
use Names.{starts, Happened, with_sent, ReplayAct, TakesAll, is_done, goes_on, has_fault, IsReplay}
use Names.{◌≡◌, ◌∷◌, Some, None, refl, sym, ap, ◌∙◌, Code, Role, Turn, In, Out, Log, Took, Take}
use Names.{ℕ, append_assoc, append-nil, none_some, TakeCalled, TakeAnswered, grows_call, Keeps-call}
use Names.{List, [], ◌++◌, length, drop, Option, arith, Event, Values, Failed, opened, takes, calls}
use Rattle.std.proofs.Math.Seq.{drop-append_seam}
use Rattle.std.proofs.lemmas.List.{length-append}
use Rattle.h2_laws_log.specs.Turns.{octets_in, octets_out, events_in}
use Rattle.h2_laws_log.proofs.TurnsOfLogs.{turns_report}
use Rattle.h2_laws_end.specs.Replays.{octets_of_acts}
use Rattle.h2_laws_end.proofs.ReplayedLogs.{replay_closed}
use Rattle.h2_laws_end.proofs.TakeAnswers.{log_after_take, failed_take}

-- Two lists of turns that tell the same but of acts.
record FollowsAlike (turns others : List Turn) : Type 0 where
  pub input : octets_in turns ≡ octets_in others
  pub output : octets_out turns ≡ octets_out others
  pub events : events_in turns ≡ events_in others

-- The same turns after them.
more_in : (news turns others : List Turn) → octets_in turns ≡ octets_in others
    → octets_in (news ++ turns) ≡ octets_in (news ++ others)
unfolding octets_in
more_in [] turns others same = same
more_in (In octets ∷ news) turns others same =
    ap (λ (line : List ℕ). line ++ octets) (more_in news turns others same)
more_in (turn ∷ news) turns others same = more_in news turns others same

-- The same of the octets written.
more_out : (news turns others : List Turn) → octets_out turns ≡ octets_out others
    → octets_out (news ++ turns) ≡ octets_out (news ++ others)
unfolding octets_out
more_out [] turns others same = same
more_out (Out octets ∷ news) turns others same =
    ap (λ (line : List ℕ). line ++ octets) (more_out news turns others same)
more_out (turn ∷ news) turns others same = more_out news turns others same

-- The same of the events.
more_events : (news turns others : List Turn) → events_in turns ≡ events_in others
    → events_in (news ++ turns) ≡ events_in (news ++ others)
unfolding events_in
more_events [] turns others same = same
more_events (Happened event ∷ news) turns others same =
    ap (λ (events : List Event). event ∷ events) (more_events news turns others same)
more_events (turn ∷ news) turns others same = more_events news turns others same

-- The same turns after them, of all that is told.
more_after : (news turns others : List Turn) → FollowsAlike turns others
    → FollowsAlike (news ++ turns) (news ++ others)
more_after news turns others same = record {
  input = more_in news turns others same.input;
  output = more_out news turns others same.output;
  events = more_events news turns others same.events;
}

-- The turns around what happens inside of `take` tell of nothing else.
around_recorded : (octets : List ℕ) (fault : Option Code) (news turns others : List Turn)
    → FollowsAlike turns others
    → FollowsAlike (TakeAnswered fault ∷ news ++ TakeCalled octets ∷ turns) (news ++ others)
unfolding octets_in octets_out events_in
around_recorded octets fault news turns others same =
    let inner : FollowsAlike (TakeCalled octets ∷ turns) others =
    record { input = same.input; output = same.output; events = same.events } in
    let more = more_after news (TakeCalled octets ∷ turns) others inner in
    record { input = more.input; output = more.output; events = more.events }

-- The turns of a replay tell what those of its log do.
replay_same : (role : Role) (values : Values) (acts : List ReplayAct) (log : Log)
    (turns : List Turn) → IsReplay role values acts log turns → FollowsAlike turns log.turns
replay_same role values _ _ _ (starts in_range) =
    record { input = refl; output = refl; events = refl }
replay_same role values _ _ _
    (takes {acts = acts} {log = log} {after = after} {turns = turns} is octets fault all news
    joined) = rw joined (around_recorded octets fault news turns log.turns
    (replay_same role values acts log turns is))
replay_same role values _ _ _
    (calls {acts = acts} {log = log} {turns = turns} is act answer typed may news joined) =
    rw joined (more_after news turns log.turns (replay_same role values acts log turns is))

-- The turns tell of the octets used, of those written and of the events.
pub replay_recorded : (role : Role) (values : Values) (acts : List ReplayAct) (log : Log)
    (turns : List Turn) → IsReplay role values acts log turns
    → (octets_in turns ≡ log.input) × (octets_out turns ≡ log.written)
    × (events_in turns ≡ log.reported)
replay_recorded role values acts log turns is =
    let same = replay_same role values acts log turns is in
    let recorded = turns_report role values log (replay_closed role values acts log turns is) in (
      same.input ∙ recorded.input,
      same.output ∙ recorded.output,
      same.events ∙ recorded.events,
    )

-- Octets of which so many were used as there are, are used.
all_of_them : (octets used unused : List ℕ) → octets ≡ used ++ unused
    → length used ≡ length octets → unused ≡ []
all_of_them octets used [] joined much = refl
all_of_them octets used (octet ∷ unused) joined much =
    absurd (omega (arith, much, ap length joined, length-append used (octet ∷ unused)))

-- Of octets that are handed to `take` some are used, and all unless the connection has failed.
record Uses (before after : Log) (octets : List ℕ) : Type 0 where
  pub prefix : List ℕ
  pub unused : List ℕ
  pub joined : octets ≡ prefix ++ unused
  pub input : after.input ≡ before.input ++ prefix
  pub all : after.failed ≡ None → unused ≡ []

-- what is left of octets whose prefix was used
after_prefix : (octets prefix unused : List ℕ) (count : ℕ) → octets ≡ prefix ++ unused
    → length prefix ≡ count → drop count octets ≡ unused
after_prefix octets prefix unused count joined much =
    ap (λ (n : ℕ). drop n octets) (sym much) ∙ ap (drop (length prefix)) joined
    ∙ drop-append_seam prefix unused

-- `take` is called until all are used.
all_uses : (log after : Log) (octets : List ℕ) (fault : Option Code)
    → TakesAll log octets fault after → Uses log after octets
all_uses log after _ _ (is_done octets may) =
    let (prefix, unused, joined, much, input, reported, up) =
    log_after_take log after octets (Took (length octets) None) may in
    record {
      prefix = prefix;
      unused = unused;
      joined = joined;
      input = input;
      all = λ still. all_of_them octets prefix unused joined much;
    }
all_uses log after _ _ (goes_on {between = between} octets count event fault may more others) =
    let (prefix, unused, joined, much, input, reported, up) =
    log_after_take log between octets (Took count event) may in
    let next = all_uses between after (drop count octets) fault others in
    record {
      prefix = prefix ++ next.prefix;
      unused = next.unused;
      joined = joined
          ∙ ap (λ (line : List ℕ). prefix ++ line)
          (sym (after_prefix octets prefix unused count joined much) ∙ next.joined)
          ∙ sym (append_assoc prefix next.prefix next.unused);
      input = next.input ∙ ap (λ (line : List ℕ). line ++ next.prefix) input
          ∙ append_assoc log.input prefix next.prefix;
      all = next.all;
    }
all_uses log after _ _ (has_fault octets code may) =
    let (prefix, unused, joined, input, reported, failed) =
    log_after_take log after octets (Failed code) may in
    record {
      prefix = prefix;
      unused = unused;
      joined = joined;
      input = input;
      all = λ up. none_some code (sym up ∙ failed);
    }

-- An answer that the connection has failed reports no use.
took_failed : (count : ℕ) (event : Option Event) (code : Code) → Took count event ≡ Failed code → ⊥
took_failed count event code is = cc

-- The same of all octets that are handed to it.
failed_all : (log after : Log) (octets : List ℕ) (fault : Option Code) (code : Code)
    → log.failed ≡ Some code → TakesAll log octets fault after → after ≡ log
failed_all log after _ _ code down (is_done octets may) =
    absurd (took_failed _ _ code (failed_take log after octets _ code down may).1)
failed_all log after _ _ code down
    (goes_on {between = between} octets count event fault may more others) =
    absurd (took_failed _ _ code (failed_take log between octets _ code down may).1)
failed_all log after _ _ code down (has_fault octets other may) =
    (failed_take log after octets _ code down may).0

-- The octets of the acts are those used, and those that weren't once the connection had failed.
record UsesActs (acts : List ReplayAct) (log : Log) : Type 0 where
  pub unused : List ℕ
  pub joined : octets_of_acts acts ≡ log.input ++ unused
  pub all : log.failed ≡ None → unused ≡ []

-- Octets are handed to `take`, by whether the connection had failed.
take_uses : (acts : List ReplayAct) (log after : Log) (octets : List ℕ) (fault : Option Code)
    (state : Option Code) → log.failed ≡ state → TakesAll log octets fault after
    → UsesActs acts log → UsesActs (Take octets ∷ acts) after
unfolding octets_of_acts
take_uses acts log after octets fault None up all before =
    let now = all_uses log after octets fault all in
    let joined : octets_of_acts acts ≡ log.input =
    before.joined ∙ ap (λ (line : List ℕ). log.input ++ line) (before.all up)
    ∙ append-nil log.input in
    record {
      unused = now.unused;
      joined = ap (λ (line : List ℕ). line ++ octets) joined
          ∙ ap (λ (line : List ℕ). log.input ++ line) now.joined
          ∙ sym (append_assoc log.input now.prefix now.unused)
          ∙ ap (λ (line : List ℕ). line ++ now.unused) (sym now.input);
      all = now.all;
    }
take_uses acts log after octets fault (Some code) down all before =
    let same = failed_all log after octets fault code down all in
    record {
      unused = before.unused ++ octets;
      joined = rw same (ap (λ (line : List ℕ). line ++ octets) before.joined
          ∙ append_assoc log.input before.unused octets);
      all = λ up. none_some code (sym up ∙ ap (λ (log : Log). log.failed) same ∙ down);
    }

-- The octets used are those of the acts, or a part at their prefix.
replay_uses : (role : Role) (values : Values) (acts : List ReplayAct) (log : Log)
    (turns : List Turn) → IsReplay role values acts log turns → UsesActs acts log
unfolding octets_of_acts opened with_sent
replay_uses role values _ _ _ (starts in_range) =
    record { unused = []; joined = refl; all = λ up. refl }
replay_uses role values _ _ _
    (takes {acts = acts} {log = log} {after = after} {turns = turns} is octets fault all news
    joined) = take_uses acts log after octets fault log.failed refl all
    (replay_uses role values acts log turns is)
replay_uses role values _ _ _
    (calls {acts = acts} {log = log} {turns = turns} is act answer typed may news joined) =
    let before = replay_uses role values acts log turns is in
    record {
      unused = before.unused;
      joined = before.joined
          ∙ ap (λ (line : List ℕ). line ++ before.unused) (sym (Keeps-call log act answer).input);
      all = λ up. before.all ((grows_call log act answer).up up);
    }

-- The octets used are those at the prefix of the acts' octets.
pub replay_used : (role : Role) (values : Values) (acts : List ReplayAct) (log : Log)
    (turns : List Turn) → IsReplay role values acts log turns
    → (unused : List ℕ) × (octets_of_acts acts ≡ log.input ++ unused)
replay_used role values acts log turns is =
    let uses = replay_uses role values acts log turns is in (uses.unused, uses.joined)

-- They are all used unless the connection has failed.
pub replay_all_used : (role : Role) (values : Values) (acts : List ReplayAct) (log : Log)
    (turns : List Turn) → IsReplay role values acts log turns → log.failed ≡ None
    → octets_of_acts acts ≡ log.input
replay_all_used role values acts log turns is up =
    let uses = replay_uses role values acts log turns is in
    uses.joined ∙ ap (λ (line : List ℕ). log.input ++ line) (uses.all up)
    ∙ append-nil log.input
