-- What is under way as a stream is reset, what is conserved meanwhile, and that the pair is quiet
-- at the end.
use Rattle.h2_laws_pair.proofs.Names
use Names.{◌≡◌, ℕ, ◌+◌, ◌-◌, Bool, true, false, if◌then◌else◌, List, [], ◌∷◌, ◌++◌, length, refl}
use Names.{sym, ◌∙◌, replicate, Data, Reset, Settings, WindowUpdate, Item, alone, block, unreleased}
use Names.{next_unprocessed, computing, get_block, sum_below, AreUnderWay, ConservesConnection}
use Names.{ConservesStream, IsQuiet, None, ◌==◌, widened}
use Rattle.h2_laws_pair.proofs.examples.Steps.{Pair}
use Rattle.h2_laws_pair.proofs.examples.SmallPair.{client_opening, server_opening}
use Rattle.h2_laws_end.proofs.OverRoom.{owed_none}
use Rattle.h2_laws_pair.proofs.examples.Moves.{after_move, after_moves, under_way_by}
use Rattle.h2_laws_pair.proofs.examples.ResetUnderWay.{started, openings, drops, quiet_pair}

-- DATA of stream 1 and of stream 3, newest first
abbrev pub first_data : List Item
first_data =
    alone (Data 1 true (replicate 3616 1) None) ∷ alone (Data 1 false (replicate 16384 1) None) ∷ []

abbrev pub second_data : List Item
second_data =
    alone (Data 3 false (replicate 12767 3) None) ∷ alone (Data 3 false (replicate 16384 3) None)
    ∷ alone (Data 3 false (replicate 16384 3) None) ∷ []

-- what stands before it
abbrev pub items_of_openings : List Item
items_of_openings =
    block 3 false get_block ∷ block 1 false get_block ∷ alone (Settings false client_opening) ∷ []

-- what comes back, by the reset, and for what is dropped
abbrev pub way_of_reset : List Item
way_of_reset =
    alone (WindowUpdate 0 3616) ∷ alone (WindowUpdate 0 16384) ∷ alone (Reset 1 8)
    ∷ alone (Settings true []) ∷ alone (Settings false server_opening) ∷ []

-- the pair before the reset, and once the DATA of stream 1 was dropped
abbrev pub opened_pair : Pair
opened_pair = after_moves started openings

abbrev pub dropped_pair : Pair
dropped_pair = after_moves started (openings ++ drops)

-- All DATA is under way as the server has both openings.
data_under_way :
    AreUnderWay opened_pair.client.log opened_pair.server.log (second_data ++ first_data)
unfolding computing after_moves after_move
data_under_way =
    under_way_by opened_pair.client.log opened_pair.server.log (second_data ++ first_data)
    items_of_openings refl refl

-- Once that of stream 1 was dropped, that of stream 3 still is; and the increments are, after the
-- reset.
others_under_way : AreUnderWay dropped_pair.client.log dropped_pair.server.log second_data
unfolding computing after_moves after_move
others_under_way =
    under_way_by dropped_pair.client.log dropped_pair.server.log second_data
    (first_data ++ items_of_openings) refl refl

reset_under_way : AreUnderWay dropped_pair.server.log dropped_pair.client.log way_of_reset
unfolding computing after_moves after_move
reset_under_way =
    under_way_by dropped_pair.server.log dropped_pair.client.log way_of_reset [] refl refl

-- The connection's window is whole with them, and so is that of stream 3.
windows_with_the_lists :
    ConservesConnection dropped_pair.client.log dropped_pair.server.log second_data way_of_reset 4
    × ConservesStream dropped_pair.client.log dropped_pair.server.log second_data way_of_reset 3
unfolding computing after_moves after_move sum_below widened
windows_with_the_lists = (refl, refl)

-- the octets that were reported on stream 3, less those that were released there
flows_and_releases : (test : Bool) → ◌≡◌ {A = ℕ} (((if test then 3616 else 0)
    + ((if test then 16384 else 0) + (0 + ((if test then 12767 else 0)
    + ((if test then 16384 else 0) + ((if test then 16384 else 0) + 0))))))
    - ((if test then 20000 else 0) + ((if test then 45535 else 0) + 0))) 0
flows_and_releases true = refl
flows_and_releases false = refl

-- At the end nothing is owed.
server_owes_nothing : (i : ℕ) → unreleased quiet_pair.server.log i ≡ 0
unfolding computing after_moves after_move
server_owes_nothing i = flows_and_releases (3 == i)

client_owes_nothing : (i : ℕ) → unreleased quiet_pair.client.log i ≡ 0
unfolding computing after_moves after_move
client_owes_nothing i = refl

-- All output was given out and delivered.
client_output :
    (quiet_pair.client.log.given ≡ 85688) × (length quiet_pair.client.log.written ≡ 85688)
    × (quiet_pair.server.incoming ≡ [])
unfolding computing after_moves after_move
client_output = (refl, refl, refl)

server_output :
    (quiet_pair.server.log.given ≡ 120) × (length quiet_pair.server.log.written ≡ 120)
    × (quiet_pair.client.incoming ≡ [])
unfolding computing after_moves after_move
server_output = (refl, refl, refl)

-- All credit was returned, and no stream is unprocessed.
nothing_due :
    (quiet_pair.server.log.unreturned ≡ 0) × (quiet_pair.client.log.unreturned ≡ 0)
    × (next_unprocessed quiet_pair.client.log ≡ 0)
unfolding computing after_moves after_move
nothing_due = (refl, refl, refl)

-- The pair is quiet.
is_quiet : IsQuiet quiet_pair.client quiet_pair.server
is_quiet = record {
  to_server = record {
    given = client_output.0 ∙ sym client_output.1;
    delivered = client_output.2;
    none_owed = λ i. owed_none quiet_pair.server.log i (server_owes_nothing i);
    none_unreturned = nothing_due.0;
  };
  to_client = record {
    given = server_output.0 ∙ sym server_output.1;
    delivered = server_output.2;
    none_owed = λ i. owed_none quiet_pair.client.log i (client_owes_nothing i);
    none_unreturned = nothing_due.1;
  };
  all_reported = nothing_due.2;
}
