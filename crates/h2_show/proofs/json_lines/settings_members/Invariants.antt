-- The objects of the pairs so far are written, and the others are to come.
use Rattle.h2_show.proofs.Names.{◌≡◌, ◌++◌, flat_map, map, pairs_left}
use Rattle.json.specs.Tree.{json_tokens}
use Rattle.h2_show.specs.JsonLines.{pair_json}
use Rattle.h2_show.proofs.json_lines.settings_members.Given as goal

abbrev pub invariant-loop-id : goal.invariant-loop-id
invariant-loop-id l =
    record {
      tokens : l.writer.tokens
          ≡ l.initial.writer.tokens ++ flat_map json_tokens (map pair_json l.yielded);
      before : l.writer.before ≡ l.initial.writer.before;
      left : l.yielded ++ pairs_left l.id-iterator ≡ pairs_left l.initial.id-iterator;
    }
