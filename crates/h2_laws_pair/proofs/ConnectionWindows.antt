-- The connection's window is conserved between the ends of a pair.
use Rattle.h2_laws_pair.proofs.Names.{◌≡◌, ℕ, ◌<◌, List, None, ◌∙◌, arith, ◌+◌, ℤ, pos, ◌+ℤ◌, ap}
use Rattle.h2_laws_pair.proofs.Names.{Item, Values, Log, owed, sum_below, every_log_has_machine}
use Rattle.h2_laws_pair.proofs.Names.{Half, AreUnderWay, ConservesConnection}
use Rattle.h2_laws_log.proofs.WindowsOfTwoEnds.{connection_meets}
use Rattle.h2_spec_machine.specs.End.{End}
use Rattle.h2_spec_machine.specs.Represents.{Represents}
use Rattle.h2_laws_machine.proofs.OwedOnStreams.{window_of_a_log, in_steps}
use Rattle.h2_laws_pair.specs.Directions.{BoundsStreams}
use Rattle.h2_laws_pair.proofs.BothWays.{AreEnds}

-- All numbers that a machine has used are below what those of its log are below.
below_of : (values : Values) (e : End) (log : Log) (bound : ℕ) → Represents values e log
    → BoundsStreams log bound → e.streams.highest < bound
below_of values e log bound represents below =
    let same = represents.streams.highest in omega (arith, same, below)

-- It is, as long as the reader hasn't failed.
pub connection_conserved : (writer reader : Half) (way back : List Item) (bound : ℕ)
    → AreEnds writer reader → reader.log.failed ≡ None
    → AreUnderWay writer.log reader.log way → AreUnderWay reader.log writer.log back
    → BoundsStreams reader.log bound → ConservesConnection writer.log reader.log way back bound
connection_conserved writer reader way back bound ends up sent returned below =
    let machine = every_log_has_machine ends.reader_role ends.reader_values reader.log
    ends.reader_log in
    let unused = sum_below bound (owed reader.log) + reader.log.unreturned in
    let received = writer.log.received in
    in_steps _ _ unused ∙ ap (λ (z : ℤ). z +ℤ pos unused)
    (connection_meets received writer.log.sent reader.log.received reader.log.sent way back sent
    returned) ∙ window_of_a_log ends.reader_values machine.0 reader.log bound machine.1
    (machine.1.failed ∙ up) (below_of ends.reader_values machine.0 reader.log bound machine.1 below)
