-- Logs of `replay`, which makes a list of acts on a new end: a call, or octets that are handed to
-- `take` until it has used them and reports nothing more.
use Rattle.std.specs.Prelude.{◌≡◌, ◌⊎◌, ◌≢◌, ◌<◌, ℕ, List, [], ◌∷◌, ◌++◌, length, drop, Option}
use Rattle.std.specs.Prelude.{Some}
use Rattle.std.specs.Prelude.{None}
use Rattle.h2_frame.specs.declared.code.Code.{Code}
use Rattle.h2_spec_log.specs.declared.role.Role.{Role}
use Rattle.h2_spec_log.specs.Events.{Event}
use Rattle.h2_spec_log.specs.Acts.{Values, AreInRange, Act, Answer, IsTypedAct, Turn, In, Out}
use Rattle.h2_spec_log.specs.Acts.{Called, Answered, Happened, TakeCalled, TakeAnswered}
use Rattle.h2_spec_log.specs.Log.{Log}
use Rattle.h2_spec_log.specs.LogCalls.{MayAnswer, with_call, opened}
use Rattle.h2_laws_end.specs.Takes.{MayTake, Took, Failed}

pub data ReplayAct : Type 0 where
  -- octets are handed to `take`
  Take : (octets : List ℕ) → ReplayAct
  -- a call is made
  Make : (act : Act) → ReplayAct

-- Octets remain, or something was reported: `take` is called again.
abbrev pub IsCalledAgain : (octets : List ℕ) (count : ℕ) → Option Event → Type 0
IsCalledAgain octets count event = (count < length octets) ⊎ (event ≢ None)

-- `take` is called until the octets are used and nothing is reported, or the connection has failed.
pub data TakesAll : Log → List ℕ → Option Code → Log → Type 0 where
  is_done : {log after : Log} → (octets : List ℕ)
      → MayTake log octets (Took (length octets) None) after → TakesAll log octets None after
  goes_on : {log between after : Log} → (octets : List ℕ) (count : ℕ) (event : Option Event)
      (fault : Option Code) → MayTake log octets (Took count event) between
      → IsCalledAgain octets count event → TakesAll between (drop count octets) fault after
      → TakesAll log octets fault after
  has_fault : {log after : Log} → (octets : List ℕ) (code : Code)
      → MayTake log octets (Failed code) after → TakesAll log octets (Some code) after

-- The acts were made, the newest first, and this is the log of the end then. The turns are the
-- log's, with those that tell of `take` around what happened in it.
pub data IsReplay (role : Role) (values : Values) : List ReplayAct → Log → List Turn → Type 0 where
  starts : AreInRange values → IsReplay role values [] (opened role values)
      (opened role values).turns
  takes : {acts : List ReplayAct} → {log after : Log} → {turns : List Turn}
      → IsReplay role values acts log turns → (octets : List ℕ) (fault : Option Code)
      → TakesAll log octets fault after → (news : List Turn) → after.turns ≡ news ++ log.turns
      → IsReplay role values (Take octets ∷ acts) after
      (TakeAnswered fault ∷ news ++ TakeCalled octets ∷ turns)
  calls : {acts : List ReplayAct} → {log : Log} → {turns : List Turn}
      → IsReplay role values acts log turns → (act : Act) (answer : Answer) → IsTypedAct act
      → MayAnswer log act answer → (news : List Turn)
      → (with_call log act answer).turns ≡ news ++ log.turns
      → IsReplay role values (Make act ∷ acts) (with_call log act answer) (news ++ turns)

-- the acts that turns tell of
unfoldable pub acts_of_turns : List Turn → List ReplayAct
acts_of_turns [] = []
acts_of_turns (TakeCalled octets ∷ turns) = Take octets ∷ acts_of_turns turns
acts_of_turns (Called act ∷ turns) = Make act ∷ acts_of_turns turns
acts_of_turns (_ ∷ turns) = acts_of_turns turns

-- where a list of turns ends: between acts, inside of one, or it isn't as turns are
pub data Phase : Type 0 where
  Between : Phase
  InTake : Phase
  InCall : Phase
  Wrong : Phase

-- Each act has one call and one answer after it. Octets come in, and events are reported, inside of
-- `take` alone; octets are written inside of `take` or after a call's answer.
unfoldable pub next_phase : Phase → Turn → Phase
next_phase Between (TakeCalled octets) = InTake
next_phase Between (Called act) = InCall
next_phase Between (Out octets) = Between
next_phase InTake (In octets) = InTake
next_phase InTake (Out octets) = InTake
next_phase InTake (Happened event) = InTake
next_phase InTake (TakeAnswered fault) = Between
next_phase InCall (Answered answer) = Between
next_phase phase turn = Wrong

unfoldable pub script_phase : List Turn → Phase
script_phase [] = Between
script_phase (turn ∷ turns) = next_phase (script_phase turns) turn

-- the octets of acts, the first one first
unfoldable pub octets_of_acts : List ReplayAct → List ℕ
octets_of_acts [] = []
octets_of_acts (Take octets ∷ acts) = octets_of_acts acts ++ octets
octets_of_acts (Make act ∷ acts) = octets_of_acts acts
