-- The parts of a connection where its cutter is left as it is: the own settings of the end stay,
-- and with them the limit of payloads that is in force.
use Rattle.h2_conn.proofs.Names.{◌≡◌, ℕ, nat_le, if◌then◌else◌, List, length, None, ap, sym, ◌∙◌}
use Rattle.h2_conn.proofs.Names.{Frame, CutterState, CutterRepresents, saturated, Limits, Role}
use Rattle.h2_conn.proofs.Names.{Values, is_server, payload_limit, Log, acked, limits_from, Keeps}
use Rattle.h2_conn.proofs.Names.{End, payload_limit_of, Represents, limit_agrees, PartsFit}
use Rattle.h2_conn.proofs.Names.{rules, Counts}

-- With the same own settings the same limit is in force.
same_limit : (values : Values) (e other : End) (log next : Log) → Represents values e log
    → Represents values other next → log.failed ≡ None → next.failed ≡ None → other.own ≡ e.own
    → payload_limit (acked next) next.sent ≡ payload_limit (acked log) log.sent
same_limit values e other log next represents after up going own =
    sym (limit_agrees values other next after going) ∙ ap payload_limit_of own
    ∙ limit_agrees values e log represents up

-- The limits to come, where `count` octets were used, and `limit` is in force.
abbrev limits_by : ℕ → Limits → ℕ → Limits
limits_by count limits limit = λ place. if nat_le place count then limits place else limit

-- Then they are those of before.
same_limits : (log next : Log) → Keeps log next
    → payload_limit (acked next) next.sent ≡ payload_limit (acked log) log.sent
    → limits_from next ≡ limits_from log
same_limits log next keeps same = search rules

-- A cutter represents the same stream, in another form.
pub cuts_same : (cutter : CutterState) (one two : Role) (limits others : Limits)
    (input after : List ℕ) (frames more : List Frame) → two ≡ one → others ≡ limits
    → after ≡ input → more ≡ frames
    → CutterRepresents cutter (is_server one) limits input frames
    → CutterRepresents cutter (is_server two) others after more
cuts_same cutter one two limits others input after frames more role limit came cut represents =
    rw (role, limit, came, cut) represents

-- A step that keeps the stream of octets, and the cutter with it.
pub parts_kept : {counts : Counts} (values : Values) (cutter : CutterState) (e other : End)
    (log next : Log)
    → PartsFit values cutter counts e log → Keeps log next → other.own ≡ e.own
    → Represents values other next → PartsFit values cutter counts other next
parts_kept values cutter e other log next parts keeps own machine =
    record {
      machine = machine;
      cut = λ up. cuts_same cutter log.role next.role (limits_from log) (limits_from next)
          log.input next.input log.frames next.frames keeps.role
          (same_limits log next keeps
          (same_limit values e other log next parts.machine machine (keeps.up up) up own))
          keeps.input keeps.frames (parts.cut (keeps.up up));
      unparsed = λ up. parts.unparsed (keeps.up up) ∙ sym keeps.unparsed;
      greatest = λ up. parts.greatest (keeps.up up);
      place = parts.place ∙ sym (ap (λ (input : List ℕ). saturated (length input)) keeps.input);
      counted = rw keeps.frames parts.counted;
    }
