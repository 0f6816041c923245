-- What is kept of the two ends, and what it represents.
use Rattle.std.specs.Prelude.{map as each, ◌≡◌, ◌≤◌, ℕ, Bool, List, ◌∷◌, ◌++◌, length, reverse}
use Rattle.h2_laws_pair.specs.Tokens.{Said, is_begun}
use Rattle.h2_flow.specs.ConfigValues.{values_of}
use Rattle.h2_spec_log.specs.Acts as log
use Rattle.h2_spec_log.specs.Acts.{Values}
use Rattle.h2_message.specs.Messages.{SentMessage}
use Rattle.h2_message.specs.Values.{message_value}
use Rattle.h2_ends.specs.declared.end.End.{End}
use Rattle.h2_ends.specs.Ends.{Handed}
use Rattle.h2_ends.specs.Represents.{EndRepresents}
use Rattle.h2_joined.specs.declared.act.Side.{Side}
use Rattle.h2_joined.specs.declared.act.Side.TheVariants as sides
use Rattle.h2_joined.specs.declared.act.Acted.{Acted}
use Rattle.h2_joined.specs.declared.act.JointAct.{JointAct}
use Rattle.h2_joined.specs.declared.act.JointAct.TheVariants as acts
use Rattle.h2_joined.specs.declared.kept.Accepted.{Accepted}
use Rattle.h2_joined.specs.declared.kept.Kept.{Kept}
use Rattle.h2_joined.specs.declared.pipe.Pipe.{Pipe}
use Rattle.h2_joined.specs.declared.store.Store.{Store}
use Rattle.h2_joined.specs.declared.joined.Joined.{Joined}
use Rattle.h2_joined.specs.Joints.{Doing, Requests, Responds, Begins, BeginsAnswer, SendsBody}
use Rattle.h2_joined.specs.Joints.{SendsTrailers, Pumps, PumpsSome, ReleasesAll, Calls, Moves}
use Rattle.h2_joined.specs.Joints.{Delivers, JointEnd, Made, IsJoint, IsNextAct}
use Rattle.h2_joined.specs.Stored.{events_kept, AreStored}

-- what was accepted for a stream: its number, the message so far, and whether more may follow
abbrev pub Shown : Type 0
Shown = ℕ × (SentMessage × Bool)

-- the same of what has happened at an end, and of what is kept of it
abbrev pub said_shown : ℕ × Said → Shown
said_shown (id, said) = (id, (said.message, is_begun said.form))

abbrev pub accepted_shown : Accepted → Shown
accepted_shown accepted = (accepted.id, (message_value accepted.message, accepted.begun))

-- the end with which something is done, and what
-- rule: joined (own) An act is the call of its name at its end
abbrev pub side_of : JointAct → Side
side_of (acts.Request message) = sides.Client
side_of (acts.Respond id message) = sides.Server
side_of (acts.Begin head) = sides.Client
side_of (acts.BeginResponse id head) = sides.Server
side_of (acts.SendBody side id octets ends) = side
side_of (acts.SendTrailers side id trailers) = side
side_of (acts.Pump side) = side
side_of (acts.PumpSome side most) = side
side_of (acts.Move from count) = from
side_of (acts.Deliver to count) = to
side_of (acts.ReleaseAll side) = side
side_of (acts.Release side id count) = side
side_of (acts.Widen side count) = side
side_of (acts.Reset side id code) = side
side_of (acts.Ping side octets) = side
side_of (acts.GoAway side) = side
side_of (acts.Fail side code) = side
side_of (acts.ChangeSettings side config) = side

-- rule: joined (own) An act is the call of its name at its end
abbrev pub doing_of : JointAct → Doing
doing_of (acts.Request message) = Requests (message_value message)
doing_of (acts.Respond id message) = Responds id (message_value message)
doing_of (acts.Begin head) = Begins head.items
doing_of (acts.BeginResponse id head) = BeginsAnswer id head.items
doing_of (acts.SendBody side id octets ends) = SendsBody id octets.items ends
doing_of (acts.SendTrailers side id trailers) = SendsTrailers id trailers.items
doing_of (acts.Pump side) = Pumps
doing_of (acts.PumpSome side most) = PumpsSome most
doing_of (acts.Move from count) = Moves count
doing_of (acts.Deliver to count) = Delivers count
doing_of (acts.ReleaseAll side) = ReleasesAll
doing_of (acts.Release side id count) = Calls (log.Release id count)
doing_of (acts.Widen side count) = Calls (log.Widen count)
doing_of (acts.Reset side id code) = Calls (log.ResetStream id code)
doing_of (acts.Ping side octets) = Calls (log.SendPing octets)
doing_of (acts.GoAway side) = Calls log.SendGoAway
doing_of (acts.Fail side code) = Calls (log.Fail code)
doing_of (acts.ChangeSettings side config) = Calls (log.ChangeSettings (values_of config))

-- what was done with an end, with its result
abbrev pub made : Side → Doing → Acted → Made
made side doing acted = record { side = side; doing = doing; acted = acted }

-- an act with its result
abbrev pub made_of : JointAct → Acted → Made
made_of act acted = made (side_of act) (doing_of act) acted

-- The pipe holds these octets, after those that were delivered, which are no more than these.
-- rule: joined (own) The first octets of a pipe are given to its end
pub record HoldsOctets (pipe : Pipe) (octets : List ℕ) : Type 0 where
  pub delivered : List ℕ
  pub items : pipe.octets.items ≡ delivered ++ octets
  pub count : pipe.used ≡ length delivered
  pub half : length delivered ≤ length octets

-- What was handed out is kept, in order, all of it; and what is kept lies within the store.
-- rule: joined (own) Accepted messages, what was handed out, octets on a pipe are kept
pub record KeepsHanded (store : Store) (handed : List Handed) : Type 0 where
  pub same : handed ≡ reverse (events_kept store)
  pub stored : AreStored store

-- What is kept of an end is what has happened at it, and the pipe to it.
-- rule: joined (own) Accepted messages, what was handed out, octets on a pipe are kept
pub record KeepsEnd (kept : Kept) (one : JointEnd) : Type 0 where
  pub incoming : HoldsOctets kept.incoming one.incoming
  pub accepted : each said_shown one.happened.accepted
      ≡ reverse (each accepted_shown kept.accepted.items)
  pub handed : KeepsHanded kept.handed one.happened.handed
  pub unfinished : kept.unfinished ≡ one.unfinished

-- The acts were made, the newest first, this has happened at the two ends, and it is what they
-- represent and what is kept of them.
-- rule: joined (own) Two joined ends are a new client and a new server, pipes empty
pub record JoinedRepresents (client_values server_values : Values) (joined : Joined)
    (made : List Made) (client server : JointEnd) : Type 0 where
  pub joint : IsJoint client_values server_values made client server
  pub client_represents : EndRepresents client_values joined.client.end client.happened
  pub server_represents : EndRepresents server_values joined.server.end server.happened
  pub client_kept : KeepsEnd joined.at_client client
  pub server_kept : KeepsEnd joined.at_server server

-- Whatever acts were made and whatever has happened: the act may have this result now, and the two
-- ends represent what has happened then.
abbrev pub MakesAct : (old : Joined) → Made → (new : Joined) → Type 0
MakesAct old act new =
    (client_values server_values : Values) (history : List Made) (client server : JointEnd)
    → JoinedRepresents client_values server_values old history client server
    → (new_client : JointEnd) × (new_server : JointEnd)
    × IsNextAct client server act new_client new_server
    × JoinedRepresents client_values server_values new (act ∷ history) new_client new_server

-- the end of a side, and what is kept of it
abbrev pub end_at : Side → Joined → End
end_at sides.Client joined = joined.client.end
end_at sides.Server joined = joined.server.end

-- what is kept of the end of a side
abbrev pub kept_of : Side → Joined → Kept
kept_of sides.Client joined = joined.at_client
kept_of sides.Server joined = joined.at_server

-- the other side
abbrev pub other_side : Side → Side
other_side sides.Client = sides.Server
other_side sides.Server = sides.Client
