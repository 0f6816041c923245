-- The headline: what holds of two joined ends after any list of acts.
use Rattle.std.specs.Prelude.{map as each, ◌≡◌, ◌≢◌, ℕ, ◌==◌, Bool, if◌then◌else◌, List, []}
use Rattle.std.specs.Prelude.{◌∷◌, ◌++◌, reverse, None}
use Rattle.std.specs.List.{AllByRecursion}
use Rattle.h2_spec_log.specs.declared.refusal.Refusal.TheVariants.{Memory}
use Rattle.h2_spec_log.specs.Acts.{Values}
use Rattle.h2_laws_end.specs.WithinWindows.{KeepsWindows}
use Rattle.h2_ends.specs.declared.refusal.EndRefusal.TheVariants.{Conn}
use Rattle.h2_ends.specs.MessageTokens.{MessageToken, parts_heard, parts_of_said, IsPrefixOfParts}
use Rattle.h2_message.specs.Messages.{SentMessage}
use Rattle.h2_laws_pair.specs.Tokens.{Begun, Ended}
use Rattle.h2_joined.specs.declared.act.Side.{Side}
use Rattle.h2_joined.specs.declared.act.Side.TheVariants as sides
use Rattle.h2_joined.specs.declared.act.Acted.{Acted}
use Rattle.h2_joined.specs.declared.act.Acted.TheVariants as acted
use Rattle.h2_joined.specs.declared.act.JointAct.{JointAct}
use Rattle.h2_joined.specs.declared.kept.Kept.{Kept}
use Rattle.h2_joined.specs.declared.joined.Joined.{Joined}
use Rattle.h2_joined.specs.Joints.{Doing, JointEnd, Made, IsJoint, IsNextAct, MemorySufficed}
use Rattle.h2_joined.specs.Joints.{NoneWasEnded}
use Rattle.h2_joined.specs.Headline.{AreQuiet, WasResetIn, ReportsNoFault}
use Rattle.h2_joined.specs.Kept.{Shown, accepted_shown, side_of, doing_of, JoinedRepresents}
use Rattle.h2_joined.specs.Stored.{events_kept}

-- what is kept of what an end has handed out on a stream, part by part: interim heads, the head,
-- octets of the body, trailers and the end are told apart
abbrev pub parts_recorded : Kept → ℕ → List MessageToken
parts_recorded kept i = parts_heard i (reverse (events_kept kept.handed))

-- the parts of what is kept as accepted, and its end unless more may follow
abbrev pub parts_shown : SentMessage × Bool → List MessageToken
parts_shown (message, begun) =
    parts_of_said (record { message = message; form = if begun then Begun None else Ended })

-- the same of what is kept for a stream, or none
unfoldable pub parts_shown_for : ℕ → List Shown → List MessageToken
parts_shown_for i [] = []
parts_shown_for i ((id, shown) ∷ accepted) =
    if id == i then parts_shown shown else parts_shown_for i accepted

abbrev pub parts_accepted : Kept → ℕ → List MessageToken
parts_accepted kept i = parts_shown_for i (reverse (each accepted_shown kept.accepted.items))

-- What an end has handed out on each stream is a prefix of what the other has accepted for it.
pub record AreInOrder (joined : Joined) : Type 0 where
  pub at_server_in_order : (i : ℕ)
      → IsPrefixOfParts (parts_recorded joined.at_server i) (parts_accepted joined.at_client i)
  pub at_client_in_order : (i : ℕ)
      → IsPrefixOfParts (parts_recorded joined.at_client i) (parts_accepted joined.at_server i)

-- It is all of it, unless the stream was reset.
pub record AreWhole (joined : Joined) (made : List Made) (client : JointEnd) : Type 0 where
  pub at_server_whole : (i : ℕ) → (WasResetIn made client i → ⊥)
      → parts_recorded joined.at_server i ≡ parts_accepted joined.at_client i
  pub at_client_whole : (i : ℕ) → (WasResetIn made client i → ⊥)
      → parts_recorded joined.at_client i ≡ parts_accepted joined.at_server i

-- From two ends these acts, the newest first, lead to two ends.
pub data ActsLeadTo (first_client first_server : JointEnd) : (acts : List Made)
    → (client server : JointEnd) → Type 0 where
  leads_nowhere : ActsLeadTo first_client first_server [] first_client first_server
  leads_on : {acts : List Made} → {client server new_client new_server : JointEnd}
      → ActsLeadTo first_client first_server acts client server → (act : Made)
      → IsNextAct client server act new_client new_server
      → ActsLeadTo first_client first_server (act ∷ acts) new_client new_server

-- After each of the acts that were made, the ends that the acts so far had made, from which the
-- later acts have led to these, had let no DATA pass its windows.
-- rule: 6.9.1 DATA is sent within both windows
abbrev pub KeepWindowsThroughout : (client_values server_values : Values) → List Made
    → (client server : JointEnd) → Type 0
KeepWindowsThroughout client_values server_values made client server =
    (later before : List Made) → made ≡ later ++ before
    → (then_client then_server : JointEnd)
    × IsJoint client_values server_values before then_client then_server
    × ActsLeadTo then_client then_server later client server
    × KeepsWindows then_client.happened.log × KeepsWindows then_server.happened.log

-- The headline. What each end has handed out on every stream is a prefix of what the other has
-- accepted for it. Where memory was not refused to a connection and neither was ended by its
-- caller, neither end reports a fault. No DATA of either has passed its windows, after whichever
-- act. Once both are quiet, it is all of it, on every stream that was not reset.
-- rule: joined (own) What one end has handed out is a prefix of what the other accepted
pub record HasHeadline (client_values server_values : Values) (joined : Joined) (made : List Made)
    (client server : JointEnd) : Type 0 where
  pub in_order : AreInOrder joined
  pub client_without_fault : MemorySufficed client server → NoneWasEnded made
      → ReportsNoFault made client.happened sides.Server
  pub server_without_fault : MemorySufficed client server → NoneWasEnded made
      → ReportsNoFault made server.happened sides.Client
  pub keep_windows : KeepWindowsThroughout client_values server_values made client server
  pub whole : AreQuiet client server → AreWhole joined made client

-- an act without its result
abbrev pub act_made : Made → Side × Doing
act_made made = (made.side, made.doing)

abbrev pub joint_act_value : JointAct → Side × Doing
joint_act_value act = (side_of act, doing_of act)

-- The result is neither `Memory` nor a refusal with C12.
pub record GotMemory (answer : Acted) : Type 0 where
  pub act : answer ≢ acted.Memory
  pub call : answer ≢ acted.Refused (Conn Memory)

-- More acts were made, in order, and this has happened at the two ends then. After a refused act
-- the next one is made.
-- rule: joined (own) An act is the call of its name at its end
pub record MoreActs (client_values server_values : Values) (joined : Joined) (before : List Made)
    (acts : List JointAct) : Type 0 where
  pub news : List Made
  pub client : JointEnd
  pub server : JointEnd
  pub represents : JoinedRepresents client_values server_values joined (news
      ++ before) client server
  pub acts_are : each act_made news ≡ reverse (each joint_act_value acts)

-- All acts of a list were made, and each got its memory.
abbrev pub MakesAll : (old : Joined) → (acts : List JointAct) → (new : Joined) → Type 0
MakesAll old acts new =
    (client_values server_values : Values) (before : List Made) (client server : JointEnd)
    → JoinedRepresents client_values server_values old before client server
    → (more : MoreActs client_values server_values new before acts)
    × AllByRecursion (λ act. GotMemory act.acted) more.news

-- The first acts of a list were made, and just the last of these has not got its memory.
abbrev pub StopsAtAct : (old : Joined) → (acts : List JointAct) → (new : Joined) → Type 0
StopsAtAct old acts new =
    (first later : List JointAct) × (acts ≡ first ++ later)
    × ((client_values server_values : Values) (before : List Made) (client server : JointEnd)
    → JoinedRepresents client_values server_values old before client server
    → (more : MoreActs client_values server_values new before first)
    × (last : Made) × (others : List Made) × (more.news ≡ last ∷ others)
    × (GotMemory last.acted → ⊥) × AllByRecursion (λ act. GotMemory act.acted) others)

-- The acts were made, in order, on a new client and a new server with these values, and none
-- returned `Memory`, or was refused with C12.
pub record RunsActs (client_values server_values : Values) (acts : List JointAct)
    (joined : Joined) : Type 0 where
  pub made : List Made
  pub client : JointEnd
  pub server : JointEnd
  pub represents : JoinedRepresents client_values server_values joined made client server
  pub acts_are : each act_made made ≡ reverse (each joint_act_value acts)
  pub memory : AllByRecursion (λ act. GotMemory act.acted) made

-- The acts were made, and the headline holds of the two ends.
-- rule: joined (own) What one end has handed out is a prefix of what the other accepted
pub record Runs (client_values server_values : Values) (acts : List JointAct) (joined : Joined)
    : Type 0 where
  pub runs : RunsActs client_values server_values acts joined
  pub headline : HasHeadline client_values server_values joined runs.made runs.client runs.server
