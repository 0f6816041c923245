use Rattle.h2_message.proofs.Names.{true, false, codes, refl, sym, ◌∙◌, bytes_eq-Decides}
use Rattle.std.proofs.lemmas.Bool.Decides.{same_from_decides}
use Rattle.h2_message.proofs.ScanPseudo.{compared}
use Rattle.h2_message.proofs.ScanRegular.{regular-length, regular-connection, regular-te}
use Rattle.h2_message.proofs.ScanRegular.{regular-any}
use Rattle.h2_message.proofs.scan.Scan.add_regular.Goals as goal

pub returns-then-eq-clause-seen : goal.returns-then-eq-clause-seen
returns-then-eq-clause-seen c fields sensitive seen =
    regular-length fields c.args.name.now c.args.value.now sensitive c.args.self.now
    c.add_length.new.self
    (compared _ _ (codes "content-length") _ true c.eq.ensures c.as_slice.ensures c.if-eq.true)
    c.add_length.ensures.connection_field
    (c.add_length.ensures.seen fields sensitive seen.has_length) seen

pub returns-then-is_connection_name-clause-seen : goal.returns-then-is_connection_name-clause-seen
returns-then-is_connection_name-clause-seen c fields sensitive seen =
    regular-connection fields c.args.name.now c.args.value.now sensitive c.args.self.now
    (compared _ _ (codes "content-length") _ false c.eq.ensures c.as_slice.ensures c.if-eq.false)
    (sym c.is_connection_name.ensures ∙ c.if-is_connection_name.true) seen

pub returns-then-eq-2-clause-seen : goal.returns-then-eq-2-clause-seen
returns-then-eq-2-clause-seen c fields sensitive seen =
    regular-te fields c.args.name.now c.args.value.now sensitive c.args.self.now
    c.eq_ignore_ascii_case.result
    (compared _ _ (codes "content-length") _ false c.eq.ensures c.as_slice.ensures c.if-eq.false)
    (sym c.is_connection_name.ensures ∙ c.if-is_connection_name.false)
    (compared _ _ (codes "te") _ true c.eq-else-is_connection_name.ensures
    c.as_slice-else-is_connection_name.ensures c.if-eq-2.true)
    (same_from_decides _ _ c.eq_ignore_ascii_case.ensures.test (bytes_eq-Decides _ _)) seen

pub returns-else-eq-2-clause-seen : goal.returns-else-eq-2-clause-seen
returns-else-eq-2-clause-seen c fields sensitive seen =
    regular-any fields c.args.name.now c.args.value.now sensitive c.args.self.now _
    record { connection_field = refl; bad_length = refl; length = refl }
    (compared _ _ (codes "content-length") _ false c.eq.ensures c.as_slice.ensures c.if-eq.false)
    (sym c.is_connection_name.ensures ∙ c.if-is_connection_name.false)
    (compared _ _ (codes "te") _ false c.eq-else-is_connection_name.ensures
    c.as_slice-else-is_connection_name.ensures c.if-eq-2.false) seen
