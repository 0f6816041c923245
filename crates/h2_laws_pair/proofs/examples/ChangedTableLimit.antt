-- A client that changes the limit of its table while a field block is under way: each block decodes
-- with the limit that is in force at its place (RFC 9113, section 4.3.1; RFC 7541, section 4.2).
use Rattle.h2_laws_pair.proofs.Names
use Names.{codes, empty_table, Settings, Item, alone, block, Open, SendFields, ChangeSettings}
use Names.{PutOut, Done, FieldsEvent, AckedEvent, acked, log_view, computing, octets}
use Names.{acknowledgment, answered, default_values, get_block, short_answer, short_request}
use Names.{lists_accepted, AreUnderWay, HeaderTablesInStep, block_count, ◌≡◌, true, false, List, []}
use Names.{◌∷◌, ◌++◌, refl, None, remembered_answer, tableless_values}
use Rattle.h2_laws_pair.proofs.examples.Steps.{Pair, new_pair}
use Rattle.h2_laws_pair.proofs.examples.Moves.{client_call, server_call, to_client, to_server}
use Rattle.h2_laws_pair.proofs.examples.Moves.{block_to_client, block_to_server, after_move}
use Rattle.h2_laws_pair.proofs.examples.Moves.{after_moves, under_way_by}
use Rattle.h2_laws_pair.proofs.examples.SmallPair.{client_opening, server_opening}
use Rattle.h2_laws_pair.proofs.examples.WrittenBlocks.{remembering_table, remembered_block}
use Rattle.h2_laws_pair.proofs.examples.WrittenBlocks.{forgetting_block, growing_answer}

-- the client opens streams 1 and 3, and all is delivered, both ways
abbrev pub settled_pair : Pair
settled_pair =
    after_moves (new_pair default_values default_values) (client_call (Open short_request false)
    ∷ client_call (Open short_request false) ∷ client_call (PutOut 81)
    ∷ to_server (Settings false client_opening)
    ∷ block_to_server 1 false get_block short_request (empty_table 4096)
    ∷ block_to_server 3 false get_block short_request (empty_table 4096)
    ∷ server_call (PutOut 42) ∷ to_client (Settings false server_opening)
    ∷ to_client (Settings true []) ∷ client_call (PutOut 9) ∷ to_server (Settings true []) ∷ [])

-- the server answers on stream 1, and the client allows no table any more
abbrev pub changed_pair : Pair
changed_pair =
    after_moves settled_pair (server_call (SendFields 1 remembered_answer false)
    ∷ client_call (ChangeSettings tableless_values) ∷ client_call (PutOut 21) ∷ [])

-- that is delivered, the server answers on stream 3, and its output is put out
abbrev pub both_answered : Pair
both_answered =
    after_moves changed_pair (to_server (Settings false ((1, 0) ∷ (4, 65535) ∷ []))
    ∷ server_call (SendFields 3 remembered_answer false) ∷ server_call (PutOut 40) ∷ [])

-- the first answer is delivered
abbrev pub one_delivered : Pair
one_delivered =
    after_moves both_answered (block_to_client 1 false (octets (codes "884081f381f5"))
    remembered_answer remembering_table ∷ [])

-- and the acknowledgment, and the other answer
abbrev pub both_delivered : Pair
both_delivered =
    after_moves one_delivered (to_client (Settings true [])
    ∷ block_to_client 3 false (octets (codes "20880081f381f5")) remembered_answer (empty_table 0)
    ∷ [])

-- the client allows a table again, that is delivered, the server ends stream 1, and its output is
-- put out
abbrev pub ended_pair : Pair
ended_pair =
    after_moves both_delivered (client_call (ChangeSettings default_values)
    ∷ client_call (PutOut 21) ∷ to_server (Settings false ((1, 4096) ∷ (4, 65535) ∷ []))
    ∷ server_call (SendFields 1 short_answer true) ∷ server_call (PutOut 22) ∷ [])

-- that is delivered
abbrev pub end_delivered : Pair
end_delivered =
    after_moves ended_pair (to_client (Settings true [])
    ∷ block_to_client 1 true (octets (codes "3fe11f88")) short_answer (empty_table 4096) ∷ [])

-- The octets that are put out after the opening.
on_the_pipes :
    (settled_pair.client.incoming ≡ []) × (settled_pair.server.incoming ≡ [])
    × (answered (log_view settled_pair.client.log) (ChangeSettings tableless_values) ≡ Done)
    × (changed_pair.server.incoming
    ≡ octets (codes "00000c 04 00 00000000 000100000000 00040000ffff"))
    × (both_answered.client.incoming
    ≡ octets (codes "000006 01 04 00000001 884081f381f5") ++ acknowledgment
    ++ octets (codes "000007 01 04 00000003 20880081f381f5"))
    × (ended_pair.client.incoming
    ≡ acknowledgment ++ octets (codes "000004 01 05 00000001 3fe11f88"))
unfolding computing after_moves after_move
on_the_pipes = (refl, refl, refl, refl, refl, refl)

-- The client reads all three.
read_by_the_client :
    (end_delivered.client.log.reported
    ≡ FieldsEvent 1 short_answer true ∷ AckedEvent ∷ FieldsEvent 3 remembered_answer false
    ∷ AckedEvent ∷ FieldsEvent 1 remembered_answer false ∷ AckedEvent ∷ [])
    × (end_delivered.client.log.failed ≡ None)
unfolding computing after_moves after_move
read_by_the_client = (refl, refl)

-- what is under way to the client while both answers are
abbrev pub way_of_both : List Item
way_of_both =
    block 3 false (octets (codes "20880081f381f5")) ∷ alone (Settings true [])
    ∷ block 1 false (octets (codes "884081f381f5")) ∷ []

-- and once the first was delivered
abbrev pub way_of_one : List Item
way_of_one = block 3 false (octets (codes "20880081f381f5")) ∷ alone (Settings true []) ∷ []

-- and at the end
abbrev pub way_of_end : List Item
way_of_end = block 1 true (octets (codes "3fe11f88")) ∷ alone (Settings true []) ∷ []

-- and before both
abbrev pub way_of_opening : List Item
way_of_opening = alone (Settings true []) ∷ alone (Settings false server_opening) ∷ []

both_under_way : AreUnderWay both_answered.server.log both_answered.client.log way_of_both
unfolding computing after_moves after_move
both_under_way =
    under_way_by both_answered.server.log both_answered.client.log way_of_both way_of_opening
    refl refl

one_under_way : AreUnderWay one_delivered.server.log one_delivered.client.log way_of_one
unfolding computing after_moves after_move
one_under_way =
    under_way_by one_delivered.server.log one_delivered.client.log way_of_one
    (block 1 false (octets (codes "884081f381f5")) ∷ way_of_opening) refl refl

end_under_way : AreUnderWay ended_pair.server.log ended_pair.client.log way_of_end
unfolding computing after_moves after_move
end_under_way =
    under_way_by ended_pair.server.log ended_pair.client.log way_of_end
    (way_of_both ++ way_of_opening) refl refl

-- The tables of the client, and of the server's encoder; and how many of the client's SETTINGS were
-- acknowledged.
tables :
    (changed_pair.client.log.table ≡ empty_table 4096)
    × (changed_pair.server.log.encoder.table ≡ remembering_table)
    × (acked both_answered.client.log ≡ 1) × (both_answered.client.log.table ≡ empty_table 4096)
    × (both_answered.server.log.encoder.table ≡ empty_table 0)
    × (one_delivered.client.log.table ≡ remembering_table)
    × (acked both_delivered.client.log ≡ 2) × (both_delivered.client.log.table ≡ empty_table 0)
    × (ended_pair.server.log.encoder.table ≡ empty_table 4096)
    × (acked end_delivered.client.log ≡ 3) × (end_delivered.client.log.table ≡ empty_table 4096)
unfolding computing after_moves after_move
tables = (refl, refl, refl, refl, refl, refl, refl, refl, refl, refl, refl)

-- Both answers decode in order, the first with the limit of 4,096 and the other with that of 0.
tables_while_both_are_under_way :
    HeaderTablesInStep both_answered.server.log both_answered.client.log way_of_both
unfolding computing after_moves after_move lists_accepted block_count
tables_while_both_are_under_way = record {
  read = [];
  under_way = remembered_answer ∷ remembered_answer ∷ [];
  accepted = refl;
  count = refl;
  decode = (
    remembered_answer,
    remembered_answer ∷ [],
    remembering_table,
    refl,
    (remembered_answer, [], empty_table 4096, refl, (refl, refl), remembered_block),
    forgetting_block,
  );
}

-- Once the first was read, the other one does.
tables_while_one_is_under_way :
    HeaderTablesInStep one_delivered.server.log one_delivered.client.log way_of_one
unfolding computing after_moves after_move lists_accepted block_count
tables_while_one_is_under_way = record {
  read = remembered_answer ∷ [];
  under_way = remembered_answer ∷ [];
  accepted = refl;
  count = refl;
  decode = (remembered_answer, [], remembering_table, refl, (refl, refl), forgetting_block);
}

-- After the change back a block raises the table's maximum again.
tables_after_the_change_back :
    HeaderTablesInStep ended_pair.server.log ended_pair.client.log way_of_end
unfolding computing after_moves after_move lists_accepted block_count
tables_after_the_change_back = record {
  read = remembered_answer ∷ remembered_answer ∷ [];
  under_way = short_answer ∷ [];
  accepted = refl;
  count = refl;
  decode = (short_answer, [], empty_table 0, refl, (refl, refl), growing_answer);
}
