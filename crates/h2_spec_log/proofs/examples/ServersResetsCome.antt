-- The logs of the examples' servers that reset streams, refuse calls, leave or fail come about:
-- each step is a frame in its encoding, or a call with its answer.
use Rattle.h2_spec_log.specs.Histories.{to_keep}
use Rattle.h2_spec_log.specs.LogCalls.{refuses}
use Rattle.h2_spec_log.proofs.Names
use Names.{arith, None, [], false, refl, replicate, true, ℕ, ◌∷◌, empty_table, Data, GoAway, Ping}
use Names.{Reset, Settings, Done, OutOfMemory, Refuse, Refused, Release, ResetStream, SendGoAway}
use Names.{SendPing, IsLog, called_one, with_call, takes, NotOwed, Server, ◌≤◌, BadPreface}
use Names.{met_fault, ran_out_of_memory, fails, lacks, limits_from, took_out_of_memory, Memory}
use Rattle.h2_spec_log.proofs.examples.Blocks.{resetting_server}
use Rattle.h2_spec_log.proofs.examples.Coming.{ServerComes, block_comes, calls_come, comes, coming}
use Rattle.h2_spec_log.proofs.examples.Coming.{octets_are, short_block}
use Rattle.h2_frame.proofs.EncodingLemmas.{below_test as below}
use Rattle.h2_spec_log.proofs.examples.Ends.{active_server, new_server, server_with_body}
use Rattle.h2_spec_log.proofs.examples.GoAways.{leaving_server, leaving_server_with_block}
use Rattle.h2_spec_log.proofs.examples.GoAways.{leaving_server_with_body}
use Rattle.h2_spec_log.proofs.examples.Opening.{fault_of_the_preface, server_at_a_wrong_preface}
use Rattle.h2_spec_log.proofs.examples.Opening.{wrong_octets}
use Rattle.h2_spec_log.proofs.examples.Resets.{server_refusing_for_memory, server_resetting_a_body}
use Rattle.h2_spec_log.proofs.examples.Resets.{server_with_late_body, server_with_refusal}
use Rattle.h2_spec_log.proofs.examples.Resets.{server_with_reset}
use Rattle.h2_spec_log.proofs.examples.Words.{abcd, default_values, get_block, one_to_eight}
use Rattle.h2_spec_log.proofs.examples.Words.{short_request}
use Rattle.h2_spec_log.proofs.examples.ServersCome.{new_server_comes, active_server_comes}
use Rattle.h2_spec_log.proofs.examples.ServersCome.{server_with_body_false_comes}
use Rattle.h2_spec_log.proofs.examples.ServersCome.{resetting_server_comes}

-- Servers that GOAWAY comes to, and that send it.
leaving_servers_come :
    ServerComes (takes active_server (GoAway 0 0 [])) × ServerComes leaving_server
    × ServerComes leaving_server_with_block × ServerComes leaving_server_with_body
unfolding coming
leaving_servers_come =
    let leaving = calls_come active_server_comes SendGoAway tt refl in
    let block = block_comes leaving 3 false get_block short_request (empty_table 4096) refl
    short_block in (
      comes active_server_comes (GoAway 0 0 []) (below _ _ refl) refl refl,
      leaving,
      block,
      comes block (Data 3 false abcd None) tt refl refl,
    )

-- Servers with a stream that is reset.
resetting_servers_come :
    ServerComes server_with_reset × ServerComes server_resetting_a_body
    × ServerComes (takes resetting_server (Data 1 false (replicate 16384 0) None))
    × ServerComes server_with_late_body
unfolding coming
resetting_servers_come =
    let late = comes resetting_server_comes (Data 1 false (replicate 16384 0) None) tt refl refl
    in (
      comes server_with_body_false_comes (Reset 1 8) (below _ _ refl) refl refl,
      calls_come server_with_body_false_comes (ResetStream 1 8) (below _ _ refl, below _ _ refl)
          refl,
      late,
      comes late (Data 1 true (replicate 3616 0) None) tt refl refl,
    )

-- Servers that refuse a stream, or are refused a call.
refusing_servers_come :
    ServerComes server_with_refusal × ServerComes server_refusing_for_memory
    × ServerComes (with_call (server_with_body false) (Release 1 3) Done)
    × ServerComes (with_call (server_with_body false) (Refuse 1 1) OutOfMemory)
    × ServerComes (with_call active_server (SendPing one_to_eight) (Refused Memory))
    × ServerComes (with_call active_server (Release 1 5) (Refused NotOwed))
unfolding coming
refusing_servers_come =
    let is = server_with_body_false_comes in (
      calls_come is (Refuse 1 1) (below _ _ refl, below _ _ refl) refl,
      calls_come is (Refuse 1 2) (below _ _ refl, below _ _ refl) refl,
      calls_come is (Release 1 3) (below _ _ refl, below _ _ refl) refl,
      called_one is (Refuse 1 1) OutOfMemory (below _ _ refl, below _ _ refl)
          (fails refl refl refl),
      called_one active_server_comes (SendPing one_to_eight) (Refused Memory)
          (refl, octets_are one_to_eight refl) (lacks refl refl refl),
      called_one active_server_comes (Release 1 5) (Refused NotOwed)
          (below _ _ refl, below _ _ refl) (refuses NotOwed refl refl),
    )

server_out_of_memory_comes : ServerComes (took_out_of_memory active_server [])
unfolding coming
server_out_of_memory_comes =
    ran_out_of_memory active_server_comes refl [] (
      0 ∷ [],
      to_keep refl (record { up = refl; all_reported = refl }) (record {
        some = λ none. cc;
        past_preface = λ inside. cc;
        no_faulty_head = λ code faulty. let nine : 9 ≤ 1 = faulty.head.nine in omega (arith, nine);
        cut_in_two = λ begins. let nine : 9 ≤ 1 = begins.nine in omega (arith, nine);
      }),
    )

server_at_a_wrong_preface_comes : ServerComes server_at_a_wrong_preface
unfolding coming
server_at_a_wrong_preface_comes =
    met_fault new_server_comes (record { up = refl; all_reported = refl }) wrong_octets BadPreface
    (fault_of_the_preface (limits_from new_server))

first_acknowledgment_at_a_server_comes :
    ServerComes (takes new_server (Settings true []))
unfolding coming
first_acknowledgment_at_a_server_comes = comes new_server_comes (Settings true []) tt refl refl

first_ping_at_a_server_comes : (a b c d e f g h : ℕ)
    → IsLog Server default_values
    (takes new_server (Ping false (a ∷ b ∷ c ∷ d ∷ e ∷ f ∷ g ∷ h ∷ [])))
unfolding coming
first_ping_at_a_server_comes a b c d e f g h =
    comes new_server_comes (Ping false (a ∷ b ∷ c ∷ d ∷ e ∷ f ∷ g ∷ h ∷ [])) refl refl refl
