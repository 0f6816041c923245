-- A client that allows no table of fields: what its server writes, and that both tables stay in
-- step (RFC 9113, section 4.3.1; RFC 7541, section 4.2).
use Rattle.h2_spec_log.proofs.examples.Coming.{values_are, are_octets, are_pairs, fields_are_octets}
use Rattle.h2_spec_log.proofs.examples.Coming.{fields_are, pairs_are, short_block}
use Rattle.h2_frame.proofs.EncodingLemmas.{below_test as below}
use Rattle.h2_laws_pair.proofs.Names
use Names.{codes, empty_table, Settings, Headers, Item, alone, block, Open, SendFields, PutOut}
use Names.{FieldsEvent, AckedEvent, acked, output, computing, octets, acknowledgment}
use Names.{default_values, get_block, server_settings, short_answer, short_request, lists_accepted}
use Names.{AreUnderWay, HeaderTablesInStep, block_count, ◌≡◌, ℕ, true, false, List, [], ◌∷◌, ◌++◌}
use Names.{refl, Some, None, tableless_values}
use Rattle.h2_laws_pair.proofs.examples.Steps.{Pair, Comes, new_pair, client_calls, server_calls}
use Rattle.h2_laws_pair.proofs.examples.Steps.{client_takes, server_takes, client_takes_block}
use Rattle.h2_laws_pair.proofs.examples.Steps.{server_takes_block, new_pair_comes}
use Rattle.h2_laws_pair.proofs.examples.Steps.{client_calls_comes, server_calls_comes}
use Rattle.h2_laws_pair.proofs.examples.Steps.{client_takes_comes, server_takes_comes}
use Rattle.h2_laws_pair.proofs.examples.SmallPair.{server_opening}
use Rattle.h2_laws_pair.proofs.examples.WrittenBlocks.{tableless_answer}

-- the pairs of the client's first SETTINGS
abbrev pub tableless_opening : List (ℕ × ℕ)
tableless_opening = (1, 0) ∷ (2, 0) ∷ (4, 65535) ∷ (6, 65536) ∷ []

-- the client asks
abbrev pub asked_pair : Pair
asked_pair = client_calls (new_pair tableless_values default_values) (Open short_request true)

-- its output is put out
abbrev pub request_on_pipe : Pair
request_on_pipe = client_calls asked_pair (PutOut 69)

-- it is delivered
abbrev pub settings_delivered : Pair
settings_delivered = server_takes request_on_pipe (Settings false tableless_opening)

abbrev pub request_delivered : Pair
request_delivered =
    server_takes_block settings_delivered 1 true get_block short_request (empty_table 4096)

-- the server answers
abbrev pub answered_pair : Pair
answered_pair = server_calls request_delivered (SendFields 1 short_answer true)

-- its output is put out
abbrev pub answer_on_pipe : Pair
answer_on_pipe = server_calls answered_pair (PutOut 53)

-- SETTINGS and the acknowledgment are delivered
abbrev pub acknowledgment_delivered : Pair
acknowledgment_delivered =
    client_takes (client_takes answer_on_pipe (Settings false server_opening)) (Settings true [])

-- and the answer
abbrev pub answer_delivered : Pair
answer_delivered =
    client_takes_block acknowledgment_delivered 1 true (octets (codes "2088")) short_answer
    (empty_table 0)

-- The answer begins with a size update to 0.
answers_without_table :
    (output answer_on_pipe.server.log
    ≡ server_settings ++ acknowledgment ++ octets (codes "000002 01 05 00000001 2088"))
    × (answer_on_pipe.client.incoming ≡ output answer_on_pipe.server.log)
    × (answer_delivered.client.incoming ≡ [])
    × (answer_delivered.client.log.reported ≡ FieldsEvent 1 short_answer true ∷ AckedEvent ∷ [])
    × (answer_delivered.client.log.failed ≡ None)
unfolding computing
answers_without_table = (refl, refl, refl, refl, refl)

-- what is under way to the client, while the answer is
abbrev pub way_of_answer : List Item
way_of_answer =
    block 1 true (octets (codes "2088")) ∷ alone (Settings true [])
    ∷ alone (Settings false server_opening) ∷ []

answer_under_way :
    AreUnderWay answer_on_pipe.server.log answer_on_pipe.client.log way_of_answer
    × AreUnderWay acknowledgment_delivered.server.log acknowledgment_delivered.client.log
    (block 1 true (octets (codes "2088")) ∷ [])
    × AreUnderWay answer_delivered.server.log answer_delivered.client.log []
unfolding computing
answer_under_way = (refl, refl, refl)

-- The client's table, how many of its SETTINGS were acknowledged, and the server's table.
tables :
    (answer_on_pipe.client.log.table ≡ empty_table 4096) × (acked answer_on_pipe.client.log ≡ 0)
    × (answer_on_pipe.server.log.encoder.table ≡ empty_table 0)
    × (acked acknowledgment_delivered.client.log ≡ 1)
    × (answer_delivered.client.log.table ≡ empty_table 0)
unfolding computing
tables = (refl, refl, refl, refl, refl)

-- The limit is in force from the acknowledgment on, and so where the block is read.
tables_while_under_way :
    HeaderTablesInStep answer_on_pipe.server.log answer_on_pipe.client.log way_of_answer
unfolding computing lists_accepted block_count
tables_while_under_way = record {
  read = [];
  under_way = short_answer ∷ [];
  accepted = refl;
  count = refl;
  decode = (short_answer, [], empty_table 4096, refl, (refl, refl), tableless_answer);
}

tables_once_delivered :
    HeaderTablesInStep answer_delivered.server.log answer_delivered.client.log []
unfolding computing lists_accepted block_count
tables_once_delivered = record {
  read = short_answer ∷ [];
  under_way = [];
  accepted = refl;
  count = refl;
  decode = (refl, refl);
}

request_on_pipe_comes : Comes tableless_values default_values request_on_pipe
unfolding computing fields_are_octets are_octets
request_on_pipe_comes =
    client_calls_comes asked_pair (PutOut 69) (client_calls_comes
    (new_pair tableless_values default_values) (Open short_request true)
    (new_pair_comes tableless_values default_values
    (values_are tableless_values refl refl refl refl refl refl refl)
    (values_are default_values refl refl refl refl refl refl refl))
    (fields_are short_request refl) tt) (below _ _ refl) tt

answer_on_pipe_comes : Comes tableless_values default_values answer_on_pipe
unfolding computing are_pairs fields_are_octets are_octets
answer_on_pipe_comes =
    server_calls_comes answered_pair (PutOut 53) (server_calls_comes request_delivered
    (SendFields 1 short_answer true) (server_takes_comes settings_delivered
    (Some (record { fields = short_request; after = empty_table 4096 }))
    (Headers 1 true true get_block None None)
    (server_takes_comes request_on_pipe None (Settings false tableless_opening)
    request_on_pipe_comes refl refl refl (pairs_are tableless_opening refl) refl refl refl refl
    refl) refl refl refl (tt, tt) refl refl short_block refl refl)
    (below _ _ refl, fields_are short_answer refl) tt) (below _ _ refl) tt

-- The pair comes about.
pub answer_delivered_comes : Comes tableless_values default_values answer_delivered
unfolding computing are_pairs
answer_delivered_comes =
    client_takes_comes acknowledgment_delivered
    (Some (record { fields = short_answer; after = empty_table 0 }))
    (Headers 1 true true (octets (codes "2088")) None None)
    (client_takes_comes (client_takes answer_on_pipe (Settings false server_opening)) None
    (Settings true [])
    (client_takes_comes answer_on_pipe None (Settings false server_opening) answer_on_pipe_comes
    refl refl refl (pairs_are server_opening refl) refl refl refl refl refl)
    refl refl refl tt refl refl refl refl refl)
    refl refl refl (tt, tt) refl refl tableless_answer refl refl
