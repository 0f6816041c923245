-- How the prover stores a table's value.
use Rattle.std.specs.Prelude.{◌≡◌, ℕ, Bool, ℤ, Option, Some, None, refl}
use Rattle.std.specs.Coded.{Coded, code_by, coded×, coded_ℕ, coded_ℤ, coded_bool, coded_option}
use Rattle.std.specs.FinMap as map
use Rattle.h2_spec_machine.specs.End.{StreamEntry, active_entry, reset_entry, StreamMap}
use Rattle.h2_streams.specs.Table.{TableState}

-- the parts of a stream, or none of a number that was reset
abbrev pub Parts : Type 0
Parts = Option ((ℤ × ℤ) × (ℕ × (Bool × Bool)))

abbrev pub parts_of : StreamEntry → Parts
parts_of reset_entry = None
parts_of (active_entry stream) = Some (
  (stream.send_window, stream.recv_window),
  (
    stream.owed,
    (stream.ended_in, stream.ended_out),
  ),
)

abbrev pub entry_of_parts : Parts → StreamEntry
entry_of_parts None = reset_entry
entry_of_parts (Some parts) = active_entry (record {
  send_window = parts.0.0;
  recv_window = parts.0.1;
  owed = parts.1.0;
  ended_in = parts.1.1.0;
  ended_out = parts.1.1.1;
})

pub entry_kept : (entry : StreamEntry) → entry_of_parts (parts_of entry) ≡ entry
entry_kept reset_entry = refl
entry_kept (active_entry stream) = refl

abbrev pub entry_code : Coded StreamEntry
entry_code = code_by Parts (coded_option (coded× (coded× coded_ℤ coded_ℤ) (coded× coded_ℕ
    (coded× coded_bool coded_bool)))) parts_of entry_of_parts entry_kept

abbrev pub table_code : Coded TableState
table_code = code_by (StreamMap × (ℕ × ℕ)) (coded× (map.code coded_ℕ entry_code)
    (coded× coded_ℕ coded_ℕ)) (λ table. (table.entries, (table.send_initial, table.recv_initial)))
    (λ parts. record {
      entries = parts.0;
      send_initial = parts.1.0;
      recv_initial = parts.1.1;
    }) (λ _. refl)
