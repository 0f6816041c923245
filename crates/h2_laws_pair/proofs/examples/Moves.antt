-- Steps of an example in a list.
use Rattle.h2_laws_pair.proofs.Names.{◌≡◌, ℕ, Bool, List, [], ◌∷◌, ◌++◌, sym, ◌∙◌, ap, Field}
use Rattle.h2_laws_pair.proofs.Names.{Entries, Frame, Item, Act, Log, AreUnderWay}
use Rattle.h2_laws_pair.proofs.examples.Steps.{Pair, client_calls, server_calls, client_takes}
use Rattle.h2_laws_pair.proofs.examples.Steps.{server_takes, client_takes_block, server_takes_block}

-- a step of an example
pub data Move : Type 0 where
  client_call : (act : Act) → Move
  server_call : (act : Act) → Move
  to_client : (frame : Frame) → Move
  to_server : (frame : Frame) → Move
  block_to_client : (stream : ℕ) (end : Bool) (octets : List ℕ) (fields : List Field)
      (after : Entries) → Move
  block_to_server : (stream : ℕ) (end : Bool) (octets : List ℕ) (fields : List Field)
      (after : Entries) → Move

unfoldable pub after_move : Pair → Move → Pair
after_move pair (client_call act) = client_calls pair act
after_move pair (server_call act) = server_calls pair act
after_move pair (to_client frame) = client_takes pair frame
after_move pair (to_server frame) = server_takes pair frame
after_move pair (block_to_client stream end octets fields after) =
    client_takes_block pair stream end octets fields after
after_move pair (block_to_server stream end octets fields after) =
    server_takes_block pair stream end octets fields after

-- the pair after all of them
unfoldable pub after_moves : Pair → List Move → Pair
after_moves pair [] = pair
after_moves pair (move ∷ moves) = after_moves (after_move pair move) moves

-- What is under way is what stands before the items that were received.
pub under_way_by : (writer reader : Log) (way before : List Item) → writer.sent ≡ way ++ before
    → reader.received ≡ before → AreUnderWay writer reader way
under_way_by writer reader way before sent received =
    sent ∙ ap (λ (items : List Item). way ++ items) (sym received)
