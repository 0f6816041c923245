-- Opening a stream: what holds where no condition refuses it, and the end after it.
use Rattle.h2_core.proofs.Names.{◌≡◌, ℕ, ◌+◌, ◌==◌, ◌≤◌, ◌<◌, Bool, true, false, List, [], ◌∷◌}
use Rattle.h2_core.proofs.Names.{None, refl, ap, ◌∙◌, arith, Field, block_of, after_block}
use Rattle.h2_core.proofs.Names.{list_size, block, refusal_of, is_server, StreamView, End, end_view}
use Rattle.h2_core.proofs.Names.{active_entry, queue_output, with_encoder, new_stream, TableState}
use Rattle.h2_core.proofs.Names.{conditions, items_of, encoder_after_call, after_call}
use Rattle.h2_spec_machine.specs.Machine.{open_stream}
use Rattle.std.proofs.lemmas.Bool.{ltb-false, eqb-true, or_parts}
use Rattle.h2_spec_log.specs.Acts.{Open}
use Rattle.h2_spec_machine.specs.End.{number_after}
use Rattle.h2_core.proofs.StepEnds.{with_table}
use Rattle.h2_core.proofs.CallMaps.{remove_inserted}
use Rattle.h2_laws_log.proofs.InvariantSends.{client_number as number_at}
use Rattle.h2_laws_log.proofs.CallConditions.{first_none as none_first}
use Rattle.hpack.proofs.Tests.{none_since as nothing}
use Rattle.std.specs.FinMap as map
use Rattle.h2_core.proofs.Names.{rules}

-- What holds where no condition refuses to open a stream.
pub record MayOpen (e : End) (fields : List Field) : Type 0 where
  pub up : e.failed ≡ None
  pub client : is_server e.role ≡ false
  pub number : number_after e.streams.highest ≤ 2147483647
  pub small : list_size fields ≤ 65536

pub may_open : (e : End) (fields : List Field) (end : Bool)
    → refusal_of (end_view e) (Open fields end) ≡ None → MayOpen e fields
unfolding conditions
may_open e fields end free =
    let up = none_first _ _ _ free in
    let few = none_first _ _ _ up.1 in
    let numbered = none_first _ _ _ few.1 in
    let going = none_first _ _ _ numbered.1 in
    let room = none_first _ _ _ going.1 in
    let small = none_first _ _ _ room.1 in
    let parts = or_parts _ _ numbered.0 in
    record {
      up = nothing _ up.0;
      client = parts.0;
      number = omega (
        arith,
        ltb-false _ _ parts.1,
        number_at (is_server e.role) (number_after e.streams.highest) parts.0,
      );
      small = ltb-false _ _ small.0;
    }

-- The next number isn't 0, and above all that were used.
number_by : (highest : ℕ) (none : Bool) → (highest == 0) ≡ none
    → (1 ≤ number_after highest) × (highest < number_after highest)
number_by highest true is = search rules
number_by highest false is = search rules

pub number_above : (highest : ℕ) → (1 ≤ number_after highest) × (highest < number_after highest)
number_above highest = number_by highest (highest == 0) refl

-- the table whose streams an end has
abbrev pub table_of : End → TableState
table_of e = record {
  entries = e.streams.entries;
  send_initial = e.peer.initial_window;
  recv_initial = e.own.in_force.initial_window;
}

-- a table with a stream that is added, and without a number
abbrev pub with_stream : TableState → ℕ → StreamView → TableState
with_stream table id stream = record table {
  entries = map.insert table.entries id (active_entry stream);
}

abbrev pub without : TableState → ℕ → TableState
without table id = record table { entries = map.remove table.entries id }

-- A stream that is added and taken away leaves the table as it was.
pub taken_away : (table added : TableState) (id : ℕ) (stream : StreamView)
    → map.get table.entries id ≡ None → added ≡ with_stream table id stream
    → without added id ≡ table
taken_away table added id stream none is =
    ap (λ (one : TableState). without one id) is
    ∙ ap (λ streams. record table { entries = streams })
    (remove_inserted table.entries id (active_entry stream) none)

-- an end with one active stream more, the greatest
abbrev pub with_count : End → ℕ → End
with_count e id = record e {
  streams = record e.streams { active_count = e.streams.active_count + 1; highest = id };
}

-- the end once the stream is open and the block is written
pub opened : (e : End) (added : TableState) (fields : List Field) (end : Bool) (id : ℕ)
    → added ≡ with_stream (table_of e) id (new_stream e false end)
    → id ≡ (end_view e).next_number
    → with_count (queue_output (with_encoder (with_table e added) (after_block e.output.encoder
    fields)) (block id end (block_of e.output.encoder fields) ∷ [])) id
    ≡ after_call e (Open fields end)
unfolding after_call items_of encoder_after_call
opened e added fields end id is number = search rules
