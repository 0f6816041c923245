-- Whether both windows let an octet go on a stream, by what a connection answers of them.
use Rattle.h2_ends.proofs.Names.{◌≡◌, ℕ, Bool, true, false, if◌then◌else◌, Option, Some, None}
use Rattle.h2_ends.proofs.Names.{refl, sym, ap, subst, and_parts, false_from_ne_true, ne_eqb, Code}
use Rattle.h2_ends.proofs.Names.{reader_room, Log, active, log_view, has_room, HasRoom, is_some}
use Rattle.std.proofs.Common.{pos, ℤ, int_lt}
use Rattle.h2_spec_log.specs.Log.{send_window}
use Rattle.h2_spec_log.specs.Windows.{connection_send_window}
use Rattle.h2_laws_log.proofs.InvariantCalls.{active_some as not_zero}

-- What the connection answers of its own window, as long as it is up,
room_of_all : (log : Log) → log.failed ≡ None
    → reader_room (log_view log) 0 ≡ Some (connection_send_window log.received log.sent)
room_of_all log up =
    ap (λ (b : Bool). if b then None else Some (connection_send_window log.received log.sent))
    (ap is_some up)

room_of_stream : (log : Log) (id : ℕ) → log.failed ≡ None → active log id ≡ true
    → reader_room (log_view log) id ≡ Some (send_window log id)
room_of_stream log id up alive =
    rw (up, ne_eqb id 0 (not_zero log id alive), alive) refl

-- It answers that there is none once it has failed.
up_by : (failed : Option Code) (room : Option ℤ)
    → HasRoom (if is_some failed then None else room) → failed ≡ None
up_by None room has = refl
up_by (Some code) room has = absurd has

pub up_by_room : (log : Log) → HasRoom (reader_room (log_view log) 0) → log.failed ≡ None
up_by_room log has =
    up_by log.failed (Some (connection_send_window log.received log.sent)) has

-- So an octet has room on an active stream where both answers say so,
pub has_both : (log : Log) (id : ℕ) → active log id ≡ true
    → HasRoom (reader_room (log_view log) 0) → HasRoom (reader_room (log_view log) id)
    → (int_lt (pos 0) (send_window log id) ≡ true)
    × (int_lt (pos 0) (connection_send_window log.received log.sent) ≡ true)
has_both log id alive all here =
    let up = up_by_room log all in (
      subst HasRoom (room_of_stream log id up alive) here,
      subst HasRoom (room_of_all log up) all,
    )

-- and has none where one of them doesn't.
pub no_room_of_all : (log : Log) (id : ℕ) → log.failed ≡ None
    → (HasRoom (reader_room (log_view log) 0) → ⊥) → has_room log id ≡ false
no_room_of_all log id up none = false_from_ne_true _ (λ room.
    none (subst HasRoom (sym (room_of_all log up)) (and_parts _ _ room).1))

pub no_room_of_stream : (log : Log) (id : ℕ) → log.failed ≡ None → active log id ≡ true
    → (HasRoom (reader_room (log_view log) id) → ⊥) → has_room log id ≡ false
no_room_of_stream log id up alive none = false_from_ne_true _ (λ room.
    none (subst HasRoom (sym (room_of_stream log id up alive)) (and_parts _ _ room).0))
