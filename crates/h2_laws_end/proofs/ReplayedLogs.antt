-- The log of a replay comes about, and its turns tell of the acts.
use Rattle.h2_laws_end.proofs.Names.{starts, ◌≡◌, ℕ, Bool, false, List, [], ◌∷◌, ◌++◌, Option, refl}
use Rattle.h2_laws_end.proofs.Names.{sym, ap, subst, ◌∙◌, append_assoc, both_ways}
use Rattle.h2_laws_end.proofs.Names.{append_cancel_right, Code, Role, Values, Act, Answer, Turn, In}
use Rattle.h2_laws_end.proofs.Names.{Out, Happened, TakeCalled, TakeAnswered, Log, with_call, IsLog}
use Rattle.h2_laws_end.proofs.Names.{begins, called_one, Called, Answered, opened, ReplayAct, Take}
use Rattle.h2_laws_end.proofs.Names.{TakesAll, is_done, goes_on, has_fault, IsReplay, takes, calls}
use Rattle.h2_spec_log.specs.Acts.{shown}
use Rattle.h2_laws_end.specs.Replays.{Make, acts_of_turns, Between, InTake, next_phase}
use Rattle.h2_laws_end.specs.Replays.{script_phase}
use Rattle.h2_laws_end.proofs.TakeAnswers.{take_closed}
use Rattle.h2_laws_end.proofs.TurnsAdded.{AllPass, Adds, is_output, is_of_take, adds_twice}
use Rattle.h2_laws_end.proofs.TurnsAdded.{adds_call, adds_take}

-- After octets that `take` has used there is a log that comes about.
all_closed : (role : Role) (values : Values) (log after : Log) (octets : List ℕ)
    (fault : Option Code) → IsLog role values log → TakesAll log octets fault after
    → IsLog role values after
all_closed role values log after _ _ is (is_done octets may) = take_closed _ _ _ _ octets _ is may
all_closed role values log after _ _ is
    (goes_on {between = between} octets count event fault may more others) =
    all_closed _ _ between _ _ fault (take_closed role values log between octets _ is may) others
all_closed role values log after _ _ is (has_fault octets code may) = take_closed _ _ _ _ _ _ is may

-- The log of a replay comes about.
pub replay_closed : (role : Role) (values : Values) (acts : List ReplayAct) (log : Log)
    (turns : List Turn) → IsReplay role values acts log turns → IsLog role values log
replay_closed role values _ _ _ (starts in_range) = begins in_range
replay_closed role values _ _ _
    (takes {acts = acts} {log = log} {after = after} {turns = turns} is octets fault all news
    joined) = all_closed _ _ _ after octets fault (replay_closed role values acts log turns is) all
replay_closed role values _ _ _
    (calls {acts = acts} {log = log} {turns = turns} is act answer typed may news joined) =
    called_one (replay_closed role values acts log turns is) act answer typed may

-- What octets add that `take` uses.
pub adds_all : (log after : Log) (octets : List ℕ) (fault : Option Code)
    → TakesAll log octets fault after → Adds is_of_take log after
adds_all log after _ _ (is_done octets may) = adds_take log after octets _ may
adds_all log after _ _ (goes_on {between = between} octets count event fault may more others) =
    adds_twice is_of_take _ between _ (adds_take _ between _ _ may) (adds_all between _ _ _ others)
adds_all log after _ _ (has_fault octets code may) = adds_take log after octets _ may

-- The new turns are those that were added.
news_pass : (p : Turn → Bool) (log after : Log) (news : List Turn) → Adds p log after
    → after.turns ≡ news ++ log.turns → AllPass p news
news_pass p log after news adds joined =
    subst (AllPass p) (append_cancel_right adds.news _ _ (sym adds.turns ∙ joined)) adds.pass

-- The new turns of a call: the call, its answer, and output.
record HasCalled (act : Act) (answer : Answer) (news : List Turn) : Type 0 where
  pub outs : List Turn
  pub all : news ≡ outs ++ Answered (shown answer) ∷ Called act ∷ []
  pub pass : AllPass is_output outs

-- The new turns of a call are these.
news_called : (log : Log) (act : Act) (answer : Answer) (news : List Turn)
    → (with_call log act answer).turns ≡ news ++ log.turns → HasCalled act answer news
news_called log act answer news joined =
    let adds = adds_call _ _ _ in
    record {
      outs = adds.news;
      all = append_cancel_right _ _ _ (sym joined ∙ adds.turns ∙ sym (append_assoc adds.news _ _));
      pass = adds.pass;
    }

-- What happens inside of `take` answer_after of no act.
acts_of_take : (news turns : List Turn) → AllPass is_of_take news
    → acts_of_turns (news ++ turns) ≡ acts_of_turns turns
unfolding acts_of_turns
acts_of_take [] turns pass = refl
acts_of_take (In octets ∷ news) turns pass = acts_of_take news turns pass.1
acts_of_take (Out octets ∷ news) turns pass = acts_of_take news turns pass.1
acts_of_take (Happened event ∷ news) turns pass = acts_of_take news turns pass.1
acts_of_take (turn ∷ news) turns pass = absurd (both_ways false refl pass.0)

-- Nor does output.
acts_of_output : (news turns : List Turn) → AllPass is_output news
    → acts_of_turns (news ++ turns) ≡ acts_of_turns turns
unfolding acts_of_turns
acts_of_output [] turns pass = refl
acts_of_output (Out octets ∷ news) turns pass = acts_of_output news turns pass.1
acts_of_output (turn ∷ news) turns pass = absurd (both_ways false refl pass.0)

-- A call answer_after of its act.
acts_of_call : (act : Act) (answer : Answer) (news turns : List Turn) → HasCalled act answer news
    → acts_of_turns (news ++ turns) ≡ Make act ∷ acts_of_turns turns
unfolding acts_of_turns
acts_of_call act answer news turns call =
    ap (λ (line : List Turn). acts_of_turns (line ++ turns)) call.all ∙ ap acts_of_turns
    (append_assoc call.outs _ _) ∙ acts_of_output call.outs _ call.pass

-- The turns tell of the acts, in order.
pub replay_acts : (role : Role) (values : Values) (acts : List ReplayAct) (log : Log)
    (turns : List Turn) → IsReplay role values acts log turns → acts_of_turns turns ≡ acts
unfolding acts_of_turns opened
replay_acts role values _ _ _ (starts in_range) = refl
replay_acts role values _ _ _
    (takes {acts = acts} {log = log} {after = after} {turns = turns} is octets fault all news
    joined) = acts_of_take news (TakeCalled octets ∷ turns)
    (news_pass is_of_take log after news (adds_all log after octets fault all) joined)
    ∙ ap (λ (acts : List ReplayAct). Take octets ∷ acts) (replay_acts role values acts log turns is)
replay_acts role values _ _ _
    (calls {acts = acts} {log = log} {turns = turns} is act answer typed may news joined) =
    acts_of_call act answer news turns (news_called log act answer news joined)
    ∙ ap (λ (acts : List ReplayAct). Make act ∷ acts) (replay_acts role values acts log turns is)

-- What happens inside of `take` stays there.
phase_of_take : (news turns : List Turn) → AllPass is_of_take news → script_phase turns ≡ InTake
    → script_phase (news ++ turns) ≡ InTake
unfolding script_phase next_phase
phase_of_take [] turns pass is = is
phase_of_take (In octets ∷ news) turns pass is = rw (phase_of_take news turns pass.1 is) refl
phase_of_take (Out octets ∷ news) turns pass is = rw (phase_of_take news turns pass.1 is) refl
phase_of_take (Happened event ∷ news) turns pass is = rw (phase_of_take news turns pass.1 is) refl
phase_of_take (turn ∷ news) turns pass is = absurd (both_ways false refl pass.0)

-- Output after an answer stands between acts.
phase_of_output : (news turns : List Turn) → AllPass is_output news
    → script_phase turns ≡ Between → script_phase (news ++ turns) ≡ Between
unfolding script_phase next_phase
phase_of_output [] turns pass is = is
phase_of_output (Out octets ∷ news) turns pass is = rw (phase_of_output news turns pass.1 is) refl
phase_of_output (turn ∷ news) turns pass is = absurd (both_ways false refl pass.0)

-- Octets that are handed to `take`, and what happens, and its answer.
phase_of_taking : (octets : List ℕ) (fault : Option Code) (news turns : List Turn)
    → AllPass is_of_take news → script_phase turns ≡ Between
    → script_phase (TakeAnswered fault ∷ news ++ TakeCalled octets ∷ turns) ≡ Between
unfolding script_phase next_phase
phase_of_taking octets fault news turns pass is =
    rw (phase_of_take news (TakeCalled octets ∷ turns) pass (rw is refl)) refl

-- A call and its answer.
phase_of_called : (act : Act) (answer : Answer) (turns : List Turn) → script_phase turns ≡ Between
    → script_phase (Answered answer ∷ Called act ∷ turns) ≡ Between
unfolding script_phase next_phase
phase_of_called act answer turns is = rw is refl

-- A call, its answer, and output.
phase_of_call : (act : Act) (answer : Answer) (news turns : List Turn)
    → HasCalled act answer news → script_phase turns ≡ Between
    → script_phase (news ++ turns) ≡ Between
phase_of_call act answer news turns call is =
    ap (λ (line : List Turn). script_phase (line ++ turns)) call.all ∙ ap script_phase
    (append_assoc call.outs _ _) ∙ phase_of_output call.outs _ call.pass (phase_of_called _ _ _ is)

-- Each act has one call and one answer.
pub replay_answers : (role : Role) (values : Values) (acts : List ReplayAct) (log : Log)
    (turns : List Turn) → IsReplay role values acts log turns → script_phase turns ≡ Between
unfolding script_phase next_phase opened
replay_answers role values _ _ _ (starts in_range) = refl
replay_answers role values _ _ _
    (takes {acts = acts} {log = log} {after = after} {turns = turns} is octets fault all news
    joined) = phase_of_taking octets fault news turns
    (news_pass is_of_take log after news (adds_all log after octets fault all) joined)
    (replay_answers role values acts log turns is)
replay_answers role values _ _ _
    (calls {acts = acts} {log = log} {turns = turns} is act answer typed may news joined) =
    phase_of_call act answer news turns (news_called log act answer news joined)
    (replay_answers role values acts log turns is)
