-- The objects of the fields so far are written.
use Rattle.h2_show.proofs.Names.{◌≡◌, ◌++◌, flat_map, map, take}
use Rattle.json.specs.Tree.{json_tokens}
use Rattle.h2_show.specs.JsonLines.{field_json}
use Rattle.h2_show.proofs.json_lines.fields_member.Given as goal

abbrev pub invariant-loop-place : goal.invariant-loop-place
invariant-loop-place l =
    record {
      tokens : l.writer.tokens ≡ l.initial.writer.tokens
          ++ flat_map json_tokens (map field_json (take l.place l.list));
      before : l.writer.before ≡ l.initial.writer.before;
    }
