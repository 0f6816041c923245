-- The queued output, with the pairs to come, is that of before with the frame; and there is room
-- for these.
use Rattle.h2_core.proofs.Names.{◌≡◌, ◌*◌, ◌-◌, ◌≤◌, ◌++◌, length, drop, flat_map, false}
use Rattle.h2_core.proofs.Names.{pair_octets}
use Rattle.h2_core.proofs.settings_frame.add_settings.Given as goal

abbrev pub invariant-loop-pair : goal.invariant-loop-pair
invariant-loop-pair l =
    record {
      up : l.output.ended ≡ false;
      room : 6 * (length l.pairs - l.pair-index) ≤ l.output.spare;
      written : l.output.waiting ++ flat_map pair_octets (drop l.pair-index l.pairs)
          ≡ l.initial.output.waiting ++ flat_map pair_octets l.pairs;
    }
