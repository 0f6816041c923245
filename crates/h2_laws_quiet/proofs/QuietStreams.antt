-- At a quiet pair of which neither end has failed the same streams are active at both ends.
use Rattle.std.proofs.Common.{◌≡◌, ℕ, ◌&&◌, Bool, true, false, List, None, refl, sym, ap, ◌∙◌}
use Rattle.std.proofs.Common.{inl, inr, subst}
use Rattle.std.proofs.lemmas.Bool.{both_ways, false_from_ne_true, cases_Bool}
use Rattle.std.specs.List.{list_any}
use Rattle.h2_block.specs.Grouping.{Item}
use Rattle.h2_spec_log.proofs.StreamLemmas.{stream_of_log}
use Rattle.h2_spec_log.specs.declared.role.Role.{Role}
use Rattle.h2_spec_log.specs.declared.role.Role.TheVariants.{Client, Server}
use Rattle.h2_spec_log.specs.Acts.{Values}
use Rattle.h2_spec_log.specs.Histories.{IsLog}
use Rattle.h2_spec_log.specs.Items.{ends, is_goaway_below}
use Rattle.h2_spec_log.specs.Log.{Log, active, state, next_unprocessed}
use Rattle.h2_spec_log.specs.Settings.{is_server}
use Rattle.h2_spec_log.specs.States.{State, Active, is_above}
use Rattle.h2_laws_log.proofs.LogViewLemmas.{client_above}
use Rattle.h2_laws_log.proofs.ReaderStates.{active_parts, active_from, LastsParts}
use Rattle.h2_laws_log.proofs.ReaderStates.{lasts_parts, lasts_from, active_used}
use Rattle.h2_laws_pair.specs.Pairs.{Half, IsPair}
use Rattle.h2_laws_pair.specs.Quiet.{IsQuiet}
use Rattle.h2_laws_pair.proofs.Arrived.{all_arrived}
use Rattle.h2_laws_pair.proofs.BothWays.{to_server, to_client, ends_of}
use Rattle.h2_laws_pair.proofs.CarriedOctets.{carried}
use Rattle.h2_laws_pair.proofs.HeardWhole.{above_server}
use Rattle.h2_laws_pair.proofs.NamedUnprocessed.{log_named, none_above}
use Rattle.h2_laws_pair.proofs.PairLogs.{both_logs}
use Rattle.h2_laws_pair.proofs.HeardWhole.{least_below}

-- What is known of the logs of a quiet pair of which neither end has failed.
pub record AreLevel (client server : Log) : Type 0 where
  pub client_values : Values
  pub server_values : Values
  pub client_log : IsLog Client client_values client
  pub server_log : IsLog Server server_values server
  pub client_role : client.role ≡ Client
  pub server_role : server.role ≡ Server
  pub to_server : server.received ≡ client.sent
  pub to_client : client.received ≡ server.sent
  pub all_reported : next_unprocessed client ≡ 0

pub are_level : (client_values server_values : Values) (client server : Half)
    → IsPair client_values server_values client server → client.log.failed ≡ None
    → server.log.failed ≡ None → IsQuiet client server → AreLevel client.log server.log
are_level client_values server_values client server pair client_up server_up quiet =
    let both = both_logs client_values server_values client server pair in
    record {
      client_values = client_values;
      server_values = server_values;
      client_log = both.client_log;
      server_log = both.server_log;
      client_role = (stream_of_log Client client_values client.log both.client_log).role;
      server_role = (stream_of_log Server server_values server.log both.server_log).role;
      to_server = all_arrived client server (ends_of client server (to_server pair))
          (carried client server (to_server pair)) server_up quiet.to_server.delivered
          quiet.to_server.given;
      to_client = all_arrived server client (ends_of server client (to_client pair))
          (carried server client (to_client pair)) client_up quiet.to_client.delivered
          quiet.to_client.given;
      all_reported = quiet.all_reported;
    }

-- A conjunction that is false is so in the other order.
other_order : (one other : Bool) → (if_both : (one && other) ≡ false) → (other && one) ≡ false
other_order true true both = absurd (both_ways _ both refl)
other_order true false both = refl
other_order false true both = refl
other_order false false both = refl

-- Where a stream isn't over at one end, and the other has read and written the same, it isn't over
-- there.
lasts_there : (i : ℕ) (received sent others_received others_sent : List Item)
    → others_received ≡ sent → received ≡ others_sent → LastsParts i received sent
    → LastsParts i others_received others_sent
lasts_there i received sent others_received others_sent to_other from_other lasts =
    record {
      ended = rw (to_other, ← from_other)
          (other_order (list_any (ends i) received) (list_any (ends i) sent) lasts.ended);
      unreset = rw to_other lasts.kept;
      kept = rw (← from_other) lasts.unreset;
    }

-- A server has closed each stream above the last one of its GOAWAY.
above_by : (role : Role) (i : ℕ) (sent : List Item) → role ≡ Server
    → list_any (is_goaway_below i) sent ≡ true → is_above role i sent ≡ true
unfolding is_above
above_by Client i sent own cut = cc
above_by Server i sent own cut = cut

module _ (client server : Log) (i : ℕ) (level : AreLevel client server) where
  -- A stream that is active at the client is active at the server,
  pub server_active : active client i ≡ true → active server i ≡ true
  server_active alive =
      let parts = active_parts client.role i client.received client.sent client.reported alive in
      active_from server.role i server.received server.sent server.reported (record {
        odd = parts.odd;
        opened = rw (level.server_role, level.to_server) (rw level.client_role at parts.opened);
        below = false_from_ne_true _ (λ above.
            let cut = above_server server.role i server.sent level.server_role above in
            none_above client i level.client_role level.all_reported
            (least_below i client.received (ap (list_any (is_goaway_below i)) level.to_client
            ∙ cut))
            alive);
        lasts = lasts_from i server.received server.sent
            (lasts_there i client.received client.sent server.received server.sent level.to_server
            level.to_client (lasts_parts i client.received client.sent parts.lasts));
        unnamed = false_from_ne_true _ (λ named.
            both_ways _ (log_named Server level.server_values server level.server_log i named).0
            (ap is_server level.server_role));
      })

  -- and one that is active at the server at the client.
  pub client_active : active server i ≡ true → active client i ≡ true
  client_active alive =
      let parts = active_parts server.role i server.received server.sent server.reported alive in
      active_from client.role i client.received client.sent client.reported (record {
        odd = parts.odd;
        opened = rw (level.client_role, ← level.to_server)
            (rw level.server_role at parts.opened);
        below = client_above client.role i client.sent level.client_role;
        lasts = lasts_from i client.received client.sent
            (lasts_there i server.received server.sent client.received client.sent level.to_client
            level.to_server (lasts_parts i server.received server.sent parts.lasts));
        unnamed = false_from_ne_true _ (λ named.
            let cut = (log_named Client level.client_values client level.client_log i named).1 in
            both_ways _ parts.below (above_by server.role i server.sent level.server_role
            (sym (ap (list_any (is_goaway_below i)) level.to_client) ∙ cut)));
      })

  -- So the same are active at both.
  pub same_active : active client i ≡ active server i
  same_active = elim (cases_Bool (active server i)) [
    | inl here ↦ client_active here ∙ sym here
    | inr none ↦ false_from_ne_true _ (λ alive. both_ways _ none (server_active alive)) ∙ sym none
  ]

-- What holds of the state Active holds of that of an active stream.
pub of_active : (P : State → Type 0) (log : Log) (i : ℕ) → active log i ≡ true → P Active
    → P (state log i)
of_active P log i alive holds =
    let is : state log i ≡ Active =
    rw (alive, active_used log.role i log.received log.sent log.reported alive) refl in
    subst P (sym is) holds
