-- The result of a replay: the turns of its acts, as the definitions of an end give them.
--
-- How octets are grouped in turns doesn't matter: what an end writes in one step is one turn of it
-- in the code, and as many as it has parts in the definitions. So turns are compared octet by
-- octet, in order: a turn with octets is one turn for each of them. Since a turn of an act's
-- beginning stands between the octets of two acts, what came in, what joined the output and what
-- was reported is the same at the end of each act.
use Rattle.std.specs.Prelude.{map as each, ◌≡◌, ℕ, List, [], ◌∷◌, ◌++◌, Some, None}
use Rattle.h2_spec_log.specs.declared.role.Role.{Role}
use Rattle.h2_spec_log.specs.Acts.{Values, Turn, In, Out, Called, Answered, Happened, TakeCalled}
use Rattle.h2_spec_log.specs.Acts.{Done, TakeAnswered}
use Rattle.h2_spec_log.specs.Log.{Log}
use Rattle.h2_laws_end.specs.Replays.{ReplayAct, IsReplay}
use Rattle.h2_replay.specs.declared.acts.Act.{Act}
use Rattle.h2_replay.specs.declared.turns.Turn as code
use Rattle.h2_replay.specs.Values.{acts_made, turn_value}

-- one turn for each octet
unfoldable pub each_octet : (List ℕ → Turn) → List ℕ → List Turn
each_octet turn octets = each (λ octet. turn (octet ∷ [])) octets

-- A turn, octet by octet. Octets that were taken without a fault are answered as a call is.
abbrev pub by_octets : Turn → List Turn
by_octets (In octets) = each_octet In octets
by_octets (Out octets) = each_octet Out octets
by_octets (TakeAnswered None) = Answered Done ∷ []
by_octets (TakeAnswered (Some code)) = TakeAnswered (Some code) ∷ []
by_octets (Called act) = Called act ∷ []
by_octets (Answered answer) = Answered answer ∷ []
by_octets (Happened event) = Happened event ∷ []
by_octets (TakeCalled octets) = TakeCalled octets ∷ []

-- turns of which the newest comes first, octet by octet, the first of all first
unfoldable pub all_by_octets : List Turn → List Turn
all_by_octets [] = []
all_by_octets (turn ∷ turns) = all_by_octets turns ++ by_octets turn

-- the same of the turns of the code, of which the first of all comes first
unfoldable pub kept_by_octets : List code.Turn → List Turn
kept_by_octets [] = []
kept_by_octets (turn ∷ turns) = by_octets (turn_value turn) ++ kept_by_octets turns

-- The turns are those of a log of a replay of the acts, octet by octet.
-- rule: replay (own) A replay keeps each act, its answer, its octets and its events
pub record KeepsReplay (role : Role) (values : Values) (acts : List ReplayAct)
    (kept : List code.Turn) (log : Log) (turns : List Turn) : Type 0 where
  pub replay : IsReplay role values acts log turns
  pub same : kept_by_octets kept ≡ all_by_octets turns

-- They are those of some log.
-- rule: replay (own) A replay keeps each act, its answer, its octets and its events
pub record Replays (role : Role) (values : Values) (acts : List Act) (kept : List code.Turn)
    : Type 0 where
  pub log : Log
  pub turns : List Turn
  pub keeps : KeepsReplay role values (acts_made acts) kept log turns
