-- The terms of the windows' laws, as numbers, after each step of a pair.
use Rattle.h2_laws_pair.proofs.Names.{Item, data_on, data_of, increment_on, total, Log, owed}
use Rattle.h2_laws_pair.proofs.Names.{send_window, connection_send_window, sum_below, ℕ, ◌+◌, ◌-◌}
use Rattle.h2_laws_pair.proofs.Names.{ℤ, pos, ◌+ℤ◌, List, [], ◌∷◌, length, take}
use Rattle.h2_laws_pair.proofs.examples.Steps.{Pair}
use Rattle.h2_laws_pair.proofs.examples.Moves.{Move, after_move}

-- What the client may send, DATA under way, increments that come back, and what the server owes or
-- has unreturned.
pub record Terms : Type 0 where
  pub window : ℤ
  pub way : ℕ
  pub back : ℕ
  pub owed : ℕ

abbrev pub terms : ℤ → (way back owed : ℕ) → Terms
terms window way back owed = record { window = window; way = way; back = back; owed = owed }

-- their sum
abbrev pub sum : Terms → ℤ
sum one = one.window +ℤ pos (one.way + (one.back + one.owed))

-- what one end has sent and the other hasn't received
abbrev pub way_between : (writer reader : Log) → List Item
way_between writer reader = take (length writer.sent - length reader.received) writer.sent

-- the connection's, with all streams below 4
abbrev pub connection_terms : (writer reader : Log) → Terms
connection_terms writer reader = record {
  window = connection_send_window writer.received writer.sent;
  way = total data_of (way_between writer reader);
  back = total (increment_on 0) (way_between reader writer);
  owed = sum_below 4 (owed reader) + reader.unreturned;
}

-- a stream's
abbrev pub stream_terms : (i : ℕ) (writer reader : Log) → Terms
stream_terms i writer reader = record {
  window = send_window writer i;
  way = total (data_on i) (way_between writer reader);
  back = total (increment_on i) (way_between reader writer);
  owed = owed reader i;
}

-- those of the connection and of a stream, from the client to the server
abbrev pub both_terms : ℕ → Pair → Terms × Terms
both_terms i pair = (
  connection_terms pair.client.log pair.server.log,
  stream_terms i pair.client.log pair.server.log,
)

-- the terms after each of them
unfoldable pub terms_after_each : ℕ → Pair → List Move → List (Terms × Terms)
terms_after_each i pair [] = []
terms_after_each i pair (move ∷ moves) =
    both_terms i (after_move pair move) ∷ terms_after_each i (after_move pair move) moves
