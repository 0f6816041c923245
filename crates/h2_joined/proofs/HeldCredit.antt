-- What is held of the connection's window where nothing is under way.
use Rattle.std.proofs.Common.{◌≡◌, ℕ, [], arith}
use Rattle.std.proofs.lemmas.Int.{ints}
use Rattle.std.specs.Prelude.{ℤ, pos, ◌+ℤ◌, ◌+◌}
use Rattle.h2_spec_log.specs.Items.{total}
use Rattle.h2_spec_log.specs.Log.{Log, granted, owed}
use Rattle.h2_spec_log.specs.Windows.{connection_send_window}
use Rattle.h2_laws_log.specs.Sums.{sum_below}
use Rattle.h2_laws_pair.specs.Directions.{ConservesConnection}
use Rattle.h2_joined.specs.Headline.{HoldsTheRest}

-- Nothing is added to a number.
held_by : (window : ℤ) (held unreturned all : ℕ) → unreturned ≡ 0
    → (window +ℤ pos 0) +ℤ pos (0 + (held + unreturned)) ≡ pos all → window +ℤ pos held ≡ pos all
held_by window held unreturned all none sum = grind (arith, ints, none, sum)

pub rest_is_held : (writer reader : Log) (bound : ℕ) → reader.unreturned ≡ 0
    → ConservesConnection writer reader [] [] bound → HoldsTheRest writer reader bound
unfolding total
rest_is_held writer reader bound none sum =
    held_by (connection_send_window writer.received writer.sent) (sum_below bound (owed reader))
    reader.unreturned (granted reader) none sum
