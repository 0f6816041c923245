-- The logs of the examples' clients come about.
use Rattle.h2_spec_log.proofs.Names
use Names.{None, [], codes, false, refl, replicate, true, ℕ, ◌∷◌, empty_table, Data, GoAway, Ping}
use Names.{Reset, Settings, WindowUpdate, ChangeSettings, IsTypedAct, Open, PutOut, SendData}
use Names.{SendGoAway, SendPing, IsLog, begins, took_none, takes, Client, reported_one}
use Rattle.h2_spec_log.proofs.examples.Coming.{ClientComes, answer_block, block_comes, calls_come}
use Rattle.h2_spec_log.proofs.examples.Coming.{comes, coming, fields_are, octets_are, settings_come}
use Rattle.h2_spec_log.proofs.examples.Coming.{values_are, zeros_are}
use Rattle.h2_frame.proofs.EncodingLemmas.{below_test as below}
use Rattle.h2_spec_log.proofs.examples.Credit.{client_with_unprocessed_body, emptied_client}
use Rattle.h2_spec_log.proofs.examples.Credit.{fuller_client, held_client, less_full_client}
use Rattle.h2_spec_log.proofs.examples.Ends.{asking_client, client_with_two, new_client}
use Rattle.h2_spec_log.proofs.examples.GoAways.{client_after_goaway, client_at_goaway}
use Rattle.h2_spec_log.proofs.examples.GoAways.{client_with_answer, client_with_end}
use Rattle.h2_spec_log.proofs.examples.GoAways.{client_with_nothing, leaving_client}
use Rattle.h2_spec_log.proofs.examples.LongBodies.{client_with_all, client_with_body}
use Rattle.h2_spec_log.proofs.examples.LongBodies.{client_with_output, client_with_send_window}
use Rattle.h2_spec_log.proofs.examples.LongBodies.{client_without_send_window}
use Rattle.h2_spec_log.proofs.examples.Octets.{octets}
use Rattle.h2_spec_log.proofs.examples.Opening.{client_with_request}
use Rattle.h2_spec_log.proofs.examples.Pings.{answered_client, pinging_client}
use Rattle.h2_spec_log.proofs.examples.Settings.{changed_client, tableless_values}
use Rattle.h2_spec_log.proofs.examples.Updates.{client_with_hundred, ended_client, lowered_client}
use Rattle.h2_spec_log.proofs.examples.Words.{abcd, default_values, one_to_eight, request}
use Rattle.h2_spec_log.proofs.examples.Words.{short_answer, short_request}

pub new_client_comes : ClientComes new_client
unfolding coming
new_client_comes = begins (values_are default_values refl refl refl refl refl refl refl)

-- Clients to which SETTINGS come first, and one that asks before that.
settled_clients_come :
    ClientComes client_with_request × ClientComes (takes new_client (Settings false []))
    × ClientComes (takes new_client (Settings false ((2, 1) ∷ [])))
    × ClientComes (takes new_client (Settings true []))
unfolding coming
settled_clients_come = (
  calls_come new_client_comes (Open request true) (fields_are request refl) refl,
  comes new_client_comes (Settings false []) tt refl refl,
  settings_come new_client_comes ((2, 1) ∷ []) refl refl refl,
  comes new_client_comes (Settings true []) tt refl refl,
)

-- PING comes first, whatever its octets are.
first_ping_at_a_client_comes : (a b c d e f g h : ℕ)
    → IsLog Client default_values
    (takes new_client (Ping false (a ∷ b ∷ c ∷ d ∷ e ∷ f ∷ g ∷ h ∷ [])))
unfolding coming
first_ping_at_a_client_comes a b c d e f g h =
    comes new_client_comes (Ping false (a ∷ b ∷ c ∷ d ∷ e ∷ f ∷ g ∷ h ∷ [])) refl refl refl

pub asking_client_comes : ClientComes asking_client
unfolding coming
asking_client_comes =
    calls_come (comes new_client_comes (Settings false []) tt refl refl) (Open short_request false)
    (fields_are short_request refl) refl

-- Clients that send a body, and to which SETTINGS come then, or that change their own.
sending_clients_come :
    ClientComes client_with_hundred × ClientComes lowered_client × ClientComes ended_client
    × ClientComes (takes asking_client (Settings true [])) × ClientComes changed_client
unfolding coming
sending_clients_come =
    let hundred = calls_come asking_client_comes (SendData 1 (replicate 100 0) false)
    (below _ _ refl, zeros_are 100) refl in
    let lowered = settings_come hundred ((4, 10) ∷ []) refl refl refl in
    let acknowledged = comes asking_client_comes (Settings true []) tt refl refl in (
      hundred,
      lowered,
      calls_come lowered (SendData 1 [] true) (below _ _ refl, tt) refl,
      acknowledged,
      calls_come acknowledged (ChangeSettings tableless_values)
          (values_are tableless_values refl refl refl refl refl refl refl) refl,
    )

pub client_with_two_comes : ClientComes client_with_two
unfolding coming
client_with_two_comes =
    calls_come asking_client_comes (Open short_request false) (fields_are short_request refl) refl

-- Clients to which GOAWAY comes, and one that sends it.
leaving_clients_come :
    ClientComes client_at_goaway × ClientComes client_after_goaway
    × ClientComes (takes client_after_goaway (GoAway 5 0 []))
    × ClientComes (takes client_after_goaway (GoAway 0 0 [])) × ClientComes client_with_end
    × ClientComes client_with_answer × ClientComes leaving_client
unfolding coming
leaving_clients_come =
    let reached = comes client_with_two_comes (GoAway 1 0 []) (below _ _ refl) refl refl in
    let after = reported_one reached refl (λ e. absurd (cc)) in
    let ended = calls_come after (SendData 1 [] true) (below _ _ refl, tt) refl in (
      reached,
      after,
      comes after (GoAway 5 0 []) (below _ _ refl) refl refl,
      comes after (GoAway 0 0 []) (below _ _ refl) refl refl,
      ended,
      block_comes ended 1 true (octets (codes "88")) short_answer (empty_table 4096) refl
          answer_block,
      calls_come asking_client_comes SendGoAway tt refl,
    )

-- Clients with streams that the peer doesn't process.
unprocessed_clients_come :
    ClientComes client_with_nothing × ClientComes (took_none client_with_nothing)
    × ClientComes (took_none (took_none client_with_nothing))
    × ClientComes (takes client_with_two (Data 3 false abcd None))
    × ClientComes client_with_unprocessed_body
    × ClientComes (took_none client_with_unprocessed_body)
unfolding coming
unprocessed_clients_come =
    let nothing = comes client_with_two_comes (GoAway 0 11 abcd) (below _ _ refl) refl refl in
    let one = reported_one nothing refl (λ e. absurd (cc)) in
    let body = comes client_with_two_comes (Data 3 false abcd None) tt refl refl in
    let left = comes body (GoAway 1 0 []) (below _ _ refl) refl refl in (
      nothing,
      one,
      reported_one one refl (λ e. absurd (cc)),
      body,
      left,
      reported_one left refl (λ e. absurd (cc)),
    )

-- Clients that send PING, and to which answers come.
pinging_clients_come :
    ClientComes pinging_client × ClientComes answered_client
    × ClientComes (takes pinging_client (Ping true (octets (codes "0102030405060709"))))
    × ClientComes (takes asking_client (Ping true one_to_eight))
    × ClientComes (takes answered_client (Ping true one_to_eight))
unfolding coming
pinging_clients_come =
    let pinging = calls_come asking_client_comes (SendPing one_to_eight)
    (refl, octets_are one_to_eight refl) refl in
    let answered = comes pinging (Ping true one_to_eight) refl refl refl in (
      pinging,
      answered,
      comes pinging (Ping true (octets (codes "0102030405060709"))) refl refl refl,
      comes asking_client_comes (Ping true one_to_eight) refl refl refl,
      comes answered (Ping true one_to_eight) refl refl refl,
    )

pub client_with_body_comes : ClientComes client_with_body
unfolding coming
client_with_body_comes =
    calls_come asking_client_comes (SendData 1 (replicate 70000 0) true)
    (below _ _ refl, zeros_are 70000) refl

-- Clients whose body waits for windows.
waiting_clients_come :
    ClientComes client_with_output × ClientComes client_without_send_window
    × ClientComes (takes client_without_send_window (WindowUpdate 1 4465))
    × ClientComes client_with_send_window × ClientComes client_with_all
unfolding coming
waiting_clients_come =
    let typed : IsTypedAct (SendData 1 (replicate 4465 0) true) =
    (below _ _ refl, zeros_are 4465) in
    let out = calls_come client_with_body_comes (PutOut 100000) (below _ _ refl) refl in
    let without = calls_come out (SendData 1 (replicate 4465 0) true) typed refl in
    let updated = comes without (WindowUpdate 1 4465) tt refl refl in
    let window = comes updated (WindowUpdate 0 4465) tt refl refl in
    let all = calls_come window (SendData 1 (replicate 4465 0) true) typed refl in
    (out, without, updated, window, all)

-- Clients with so much output that credit is held back.
full_clients_come :
    ClientComes (takes client_with_body (Data 1 false abcd None)) × ClientComes held_client
    × ClientComes fuller_client × ClientComes less_full_client × ClientComes emptied_client
unfolding coming
full_clients_come =
    let body = comes client_with_body_comes (Data 1 false abcd None) tt refl refl in
    let held = comes body (Reset 1 8) (below _ _ refl) refl refl in
    let fuller = calls_come held (PutOut 113) (below _ _ refl) refl in
    let less = calls_come fuller (PutOut 1) (below _ _ refl) refl in
    (body, held, fuller, less, calls_come less (PutOut 100000) (below _ _ refl) refl)
