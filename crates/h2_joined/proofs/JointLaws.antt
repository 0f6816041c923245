-- What follows for two joined ends: no fault is reported, and once they are quiet all that was
-- accepted was handed out.
use Rattle.h2_joined.proofs.Names
use Names.{inl, inr, true, Option, refl, sym, ap, ◌∙◌, subst, Values, ResetEvent, UnprocessedEvent}
use Names.{Said, Token, IsPrefixOfTokens, said_tokens, tokens_heard, EndLog, said_for}
use Names.{tokens_handed, tokens_said, SendsInOrder, IsQuietEnd, Side, JointEnd, Made, half_of}
use Names.{AreQuiet, WasResetIn, ReportsNoFault, part_of_event, tokens_given, ◌≡◌, ℕ, false, List}
use Names.{Some, None, Client, Server, other_side}
use Rattle.h2_laws_pair.specs.Quiet.{IsQuiet, WasReset, IsSending, IsStuck}
use Rattle.h2_laws_pair.specs.Undisturbed.{IsFaultless}
use Rattle.h2_laws_pair.proofs.HeardQuiet.{server_hears_whole, client_hears_whole}
use Rattle.h2_joined.proofs.JointHolds.{JointHolds, EndHolds, AllHadMemory, HoldsAt, turned}
use Rattle.h2_ends.proofs.EndOrder.{waiting_of, none_begins}
use Rattle.h2_ends.proofs.PumpTokens.{said_is as said_of}
use Rattle.h2_joined.proofs.HoldsSides.{faultless_at}
use Rattle.h2_joined.proofs.JointOrder.{hands_at}

-- An end whose connection reports no fault reports none.
reports_no_fault : (made : List Made) (side peer : Side) (one other : EndLog)
    → EndHolds made side one → EndHolds made peer other → IsFaultless one.log other.log
    → ReportsNoFault made one peer
reports_no_fault made side peer one other holds other_holds faultless =
    record {
      up = faultless.up;
      no_reset_of_ours = λ id code here. faultless.no_stream_fault id code
          (holds.passed (ResetEvent id code true) here);
      asked = λ id code here. other_holds.asked id code
          (faultless.asked id code (holds.passed (ResetEvent id code false) here));
    }

pub faultless_end : (side : Side) (client_values server_values : Values) (made : List Made)
    (one other : JointEnd) → HoldsAt side client_values server_values made one other
    → AllHadMemory made → ReportsNoFault made one.happened (other_side side)
faultless_end side client_values server_values made one other holds had =
    let stays = holds.stays in
    let calm = stays.calm had in
    reports_no_fault made side (other_side side) one.happened other.happened calm.holds
    calm.other_holds (faultless_at side client_values server_values (half_of one stays.lost)
    (half_of other stays.other_lost) (AllHadMemory made) stays.pair had)

-- Two quiet ends are a quiet pair.
pub quiet_pair : (client_values server_values : Values) (made : List Made)
    (client server : JointEnd) (holds : JointHolds client_values server_values made client server)
    → AllHadMemory made → AreQuiet client server
    → IsQuiet (half_of client holds.stays.lost) (half_of server holds.stays.other_lost)
quiet_pair client_values server_values made client server holds had quiet =
    record {
      to_server = record {
        given = quiet.quiet_client.given;
        delivered = quiet.to_server;
        none_owed = quiet.quiet_server.none_owed;
        none_unreturned = quiet.quiet_server.none_unreturned;
      };
      to_client = record {
        given = quiet.quiet_server.given;
        delivered = quiet.to_client;
        none_owed = quiet.quiet_client.none_owed;
        none_unreturned = quiet.quiet_client.none_unreturned;
      };
      all_reported = (holds.stays.calm had).reported quiet.finished_client;
    }

-- What an unprocessed stream is reported by is no part of a message.
no_part : (i : ℕ) → part_of_event (UnprocessedEvent i) ≡ None
unfolding part_of_event
no_part i = refl

-- A stream that was reset at the connections was so by an act, or was reported.
reset_in : (made : List Made) (client server : JointEnd) (i : ℕ)
    → EndHolds made Client client.happened → EndHolds made Server server.happened
    → WasReset client.happened.log server.happened.log i → WasResetIn made client i
reset_in made client server i client_holds server_holds (inl (code, asked)) =
    inl (Client, code, client_holds.asked i code asked)
reset_in made client server i client_holds server_holds (inr (inl (code, asked))) =
    inl (Server, code, server_holds.asked i code asked)
reset_in made client server i client_holds server_holds (inr (inr named)) =
    inr (client_holds.reported (UnprocessedEvent i) (no_part i) named)

sending_of : (end : EndLog) (i : ℕ) (said : Said)
    → said_for i end.accepted ≡ Some said → (sends : SendsInOrder end i)
    → IsSending end.log i said sends.waiting
sending_of end i said is sends =
    record {
      sent = sym (said_of end i said is) ∙ sends.prefix;
      begun = sends.begun (λ none. let wrong : Some said ≡ None = sym is ∙ none in cc);
    }

-- Where nothing was accepted for a stream, nothing was handed out on it; where something was, all
-- of it, by what a quiet pair has heard.
handed_whole : (one other : EndLog) (made : List Made) (side : Side) (i : ℕ)
    (given : Option Said) → said_for i other.accepted ≡ given
    → IsPrefixOfTokens (tokens_handed one i) (tokens_said other i) → SendsInOrder other i
    → EndHolds made side one → IsQuietEnd other
    → ((said : Said) (waiting : List Token) → IsSending other.log i said waiting
    → IsStuck other.log i waiting → tokens_heard i one.log.reported ≡ said_tokens said)
    → tokens_handed one i ≡ tokens_said other i
unfolding tokens_given
handed_whole one other made side i None is begins sends holds quiet heard =
    none_begins _ begins.0 (sym (ap tokens_given is) ∙ begins.1) ∙ sym (ap tokens_given is)
handed_whole one other made side i (Some said) is begins sends holds quiet heard =
    sym (holds.heard i) ∙ heard said sends.waiting (sending_of other i said is sends)
    (subst (λ (waiting : List Token). IsStuck other.log i waiting) (waiting_of _ _ sends)
    (quiet.stuck i)) ∙ sym (said_of other i said is)

module _ (client_values server_values : Values) (made : List Made) (client server : JointEnd)
    (i : ℕ) (holds : JointHolds client_values server_values made client server)
    (had : AllHadMemory made) (quiet : AreQuiet client server)
    (unreset : WasResetIn made client i → ⊥) where
  not_reset : WasReset client.happened.log server.happened.log i → ⊥
  not_reset reset =
      let calm = holds.stays.calm had in
      unreset (reset_in made client server i calm.holds calm.other_holds reset)

  pub server_has_all : tokens_handed server.happened i ≡ tokens_said client.happened i
  server_has_all =
      handed_whole server.happened client.happened made Server i _ refl
      (hands_at Server _ _ _ _ _ i (turned Client _ _ _ _ _ holds)) (holds.order.sends i)
      (holds.stays.calm had).other_holds quiet.quiet_client
      (λ said waiting. server_hears_whole client_values server_values
      (half_of client holds.stays.lost) (half_of server holds.stays.other_lost) i said waiting
      holds.stays.pair.0 (holds.stays.pair.1 had) (quiet_pair _ _ _ _ server holds had quiet)
      not_reset)

  pub client_has_all : tokens_handed client.happened i ≡ tokens_said server.happened i
  client_has_all =
      handed_whole client.happened server.happened made Client i _ refl
      (hands_at Client _ _ _ _ _ i holds) (holds.other_order.sends i)
      (holds.stays.calm had).holds quiet.quiet_server
      (λ said waiting. client_hears_whole client_values server_values
      (half_of client holds.stays.lost) (half_of server holds.stays.other_lost) i said waiting
      holds.stays.pair.0 (holds.stays.pair.1 had) (quiet_pair _ _ _ _ server holds had quiet)
      not_reset)
