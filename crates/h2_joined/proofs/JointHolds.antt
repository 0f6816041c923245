-- What holds of two joined ends, whatever acts were made.
use Rattle.h2_joined.proofs.Names
use Rattle.h2_ends.specs.declared.span.Turn.{Turn}
use Names.{InternalError, AllByRecursion, next_unprocessed, IsSoundSaid, Responses}
use Names.{Contains, asks_head, WasAsked, said_for, parts_on, KeepsOrder, JointEnd, WasResetAt}
use Names.{Values, Event, EndLog, Passed, Side, Made, half_of, Client, Server, Said}
use Names.{tokens_heard, IsNoEmptyPart, part_of_event, tokens_handed, Contains-append_right, IsLog}
use Names.{[], ◌∷◌, other_side, Code, Fail}
use Rattle.h2_joined.specs.Joints.{Calls}
use Rattle.std.specs.Prelude.{◌≡◌, ◌≢◌, ℕ, false, List, Option, Some, None}
use Rattle.h2_message.specs.declared.malformed.Malformed.{Malformed}
use Rattle.h2_joined.specs.declared.act.Acted.TheVariants.{Failed}
use Rattle.h2_message.specs.declared.reading.Reads.TheVariants.{Requests}
use Rattle.h2_joined.proofs.BegunOut.{SendsBegun}
use Rattle.h2_joined.proofs.HoldsSides.{IsPairAt, log_at, role_at, values_at}
use Rattle.h2_joined.proofs.HoldsSteps.{where_at}

-- No connection has failed in the act since memory was refused, nor was one ended by its caller.
pub record ActHadMemory (made : Made) : Type 0 where
  pub connection : made.acted ≢ Failed InternalError
  pub not_ended : (code : Code) → made.doing ≢ Calls (Fail code)

abbrev pub AllHadMemory : List Made → Type 0
AllHadMemory made = AllByRecursion ActHadMemory made

-- What was handed out at an end is what its connection has reported, and each reset that its
-- connection was asked for is an act.
pub record EndHolds (made : List Made) (side : Side) (end : EndLog) : Type 0 where
  pub heard : (i : ℕ) → tokens_heard i end.log.reported ≡ tokens_handed end i
  pub says : (i : ℕ) → AllByRecursion IsNoEmptyPart (parts_on i end.handed)
  pub passed : (event : Event) → Contains end.handed (Passed event)
      → Contains end.log.reported event
  pub reported : (event : Event) → part_of_event event ≡ None → Contains end.log.reported event
      → Contains end.handed (Passed event)
  pub asked : (id code : ℕ) → WasAsked end.log.calls id code → WasResetAt made side id code

-- What holds of an end holds with one act more.
pub end_holds_more : (act : Made) (made : List Made) (side : Side) (end : EndLog)
    → EndHolds made side end → EndHolds (act ∷ made) side end
end_holds_more act made side end holds =
    record {
      heard = holds.heard;
      says = holds.says;
      passed = holds.passed;
      reported = holds.reported;
      asked = λ id code was. Contains-append_right (act ∷ []) made _ (holds.asked id code was);
    }

-- It holds wherever the next pass begins.
pub holds_turned : (made : List Made) (side : Side) (end : EndLog) (turn : Turn)
    → EndHolds made side end → EndHolds made side (record end { turn = turn })
holds_turned made side end turn holds =
    record {
      heard = holds.heard;
      says = holds.says;
      passed = holds.passed;
      reported = holds.reported;
      asked = holds.asked;
    }

-- It holds whatever part was refused last.
pub holds_refused : (made : List Made) (side : Side) (end : EndLog)
    (last : Option (ℕ × Malformed)) → EndHolds made side end
    → EndHolds made side (record end { malformed = last })
holds_refused made side end last holds =
    record {
      heard = holds.heard;
      says = holds.says;
      passed = holds.passed;
      reported = holds.reported;
      asked = holds.asked;
    }

-- The server has accepted this for a stream: it answers what the client has accepted for it, and
-- breaks no rule as an answer to that, as far as it was given.
pub record IsAnswer (client : EndLog) (i : ℕ) (said : Said) : Type 0 where
  pub request : Said
  pub accepted : said_for i client.accepted ≡ Some request
  pub well : IsSoundSaid (Responses (asks_head request.message.head)) said

-- What was accepted breaks no rule, as far as it was given.
pub record AcceptWell (client server : EndLog) : Type 0 where
  pub requests : (i : ℕ) (said : Said) → said_for i client.accepted ≡ Some said
      → IsSoundSaid Requests said
  pub answers : (i : ℕ) (said : Said) → said_for i server.accepted ≡ Some said
      → IsAnswer client i said

-- the same as one of the ends sees it
abbrev pub AcceptAt : Side → (one other : EndLog) → Type 0
AcceptAt Client one other = AcceptWell one other
AcceptAt Server one other = AcceptWell other one

-- An end that has accepted the same has so still.
pub accept_same : (side : Side) (end new other : EndLog) → new.accepted ≡ end.accepted
    → AcceptAt side end other → AcceptAt side new other
accept_same Client end new other same accept =
    record {
      requests = rw same accept.requests;
      answers = λ i said is. let answer = accept.answers i said is in record {
        request = answer.request;
        accepted = rw same answer.accepted;
        well = answer.well;
      };
    }
accept_same Server end new other same accept =
    record {
      requests = accept.requests;
      answers = λ i said is. let answer = accept.answers i said (rw same at is) in record {
        request = answer.request;
        accepted = answer.accepted;
        well = answer.well;
      };
    }

-- Unless the last delivery to the client has stopped, no stream waits to be reported as
-- unprocessed.
abbrev pub HasReported : (client : JointEnd) → Type 0
HasReported client = client.unfinished ≡ false → next_unprocessed client.happened.log ≡ 0

abbrev pub ReportedAt : Side → (one other : JointEnd) → Type 0
ReportedAt Client one other = HasReported one
ReportedAt Server one other = HasReported other

pub reported_by : (side : Side) (one other new new_other : JointEnd)
    → (HasReported one → HasReported new) → (HasReported other → HasReported new_other)
    → ReportedAt side one other → ReportedAt side new new_other
reported_by Client one other new new_other here there reported = here reported
reported_by Server one other new new_other here there reported = there reported

-- What holds as long as memory was not refused to a connection, as the end on this side sees it.
pub record IsCalm (side : Side) (made : List Made) (one other : JointEnd) : Type 0 where
  pub holds : EndHolds made side one.happened
  pub other_holds : EndHolds made (other_side side) other.happened
  pub accepted : AcceptAt side one.happened other.happened
  pub reported : ReportedAt side one other

-- What holds of two joined ends between two calls of an act: all but the order, which holds again
-- after the last one.
pub record StaysAt (side : Side) (client_values server_values : Values) (made : List Made)
    (one other : JointEnd) : Type 0 where
  pub lost : List ℕ
  pub other_lost : List ℕ
  pub pair : IsPairAt side client_values server_values (half_of one lost)
      (half_of other other_lost) (AllHadMemory made)
  pub calm : AllHadMemory made → IsCalm side made one other

pub record HoldsAt (side : Side) (client_values server_values : Values) (made : List Made)
    (one other : JointEnd) : Type 0 where
  pub stays : StaysAt side client_values server_values made one other
  pub order : KeepsOrder one.happened
  pub other_order : KeepsOrder other.happened
  pub begun : SendsBegun one.happened
  pub other_begun : SendsBegun other.happened

-- the same, as the client sees it
abbrev pub JointHolds : (client_values server_values : Values) → List Made
    → (client server : JointEnd) → Type 0
JointHolds client_values server_values made client server =
    HoldsAt Client client_values server_values made client server

-- Where it holds at one side it holds at the other.
turned_stays : (side : Side) (client_values server_values : Values) (made : List Made)
    (one other : JointEnd) → StaysAt side client_values server_values made one other
    → StaysAt (other_side side) client_values server_values made other one
turned_stays Client client_values server_values made one other stays =
    record {
      lost = stays.other_lost;
      other_lost = stays.lost;
      pair = stays.pair;
      calm = λ had. let calm = stays.calm had in record {
        holds = calm.other_holds;
        other_holds = calm.holds;
        accepted = calm.accepted;
        reported = calm.reported;
      };
    }
turned_stays Server client_values server_values made one other stays =
    record {
      lost = stays.other_lost;
      other_lost = stays.lost;
      pair = stays.pair;
      calm = λ had. let calm = stays.calm had in record {
        holds = calm.other_holds;
        other_holds = calm.holds;
        accepted = calm.accepted;
        reported = calm.reported;
      };
    }

module _ (side : Side) (client_values server_values : Values) (made : List Made)
    (one other : JointEnd) where
  pub turned : HoldsAt side client_values server_values made one other
      → HoldsAt (other_side side) client_values server_values made other one
  turned holds = record {
    stays = turned_stays side client_values server_values made one other holds.stays;
    order = holds.other_order;
    other_order = holds.order;
    begun = holds.other_begun;
    other_begun = holds.begun;
  }

  -- One act more leaves what holds.
  pub stays_more : (act : Made) → StaysAt side client_values server_values made one other
      → StaysAt side client_values server_values (act ∷ made) one other
  stays_more act stays = record {
    lost = stays.lost;
    other_lost = stays.other_lost;
    pair = where_at side client_values server_values (half_of one stays.lost)
        (half_of other stays.other_lost) (AllHadMemory made) (AllHadMemory (act ∷ made)) stays.pair
        (λ had. had.1);
    calm = λ had. let calm = stays.calm had.1 in record {
      holds = end_holds_more act made side one.happened calm.holds;
      other_holds = end_holds_more act made (other_side side) other.happened calm.other_holds;
      accepted = calm.accepted;
      reported = calm.reported;
    };
  }

  -- the log of this end comes about
  pub log_of : StaysAt side client_values server_values made one other
      → IsLog (role_at side) (values_at side client_values server_values) one.happened.log
  log_of stays = log_at side client_values server_values (half_of one stays.lost)
      (half_of other stays.other_lost) (AllHadMemory made) stays.pair
