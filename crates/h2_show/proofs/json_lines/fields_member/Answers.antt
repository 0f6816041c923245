-- The array of the fields.
use Rattle.h2_show.proofs.Names.{◌≡◌, ◌∙◌, ◌<◌, ◌≤◌, ◌++◌, List, ap, length, map, take, flat_map}
use Rattle.h2_show.proofs.Names.{Some, arith, Field}
use Rattle.std.proofs.lemmas.List.{take_all}
use Rattle.std.specs.List.{slice_get}
use Rattle.json.specs.Tree.{json_tokens}
use Rattle.hpack.specs.FieldLists.{field_lent}
use Rattle.h2_show.specs.JsonLines.{field_json}
use Rattle.h2_show.proofs.JsonLemmas.{array_written, fields_next}
use Rattle.h2_show.proofs.json_lines.fields_member.Goals as goal
use Rattle.h2_show.proofs.json_lines.fields_member.Goals.{in-Some+in_ok-write_json_field, in_default}

pub loop-place-preserved : goal.loop-place-preserved
loop-place-preserved c =
    let list = c.args.list.now in
    let place = c.loop-place.place in
    elim c.match-get.branch [
      | in-Some+in_ok-write_json_field w ↦
          let next : Field = field_lent w.in-Some.field in
          let there : slice_get list place ≡ Some next = w.in-Some.ensures in
          rw w.writer-is (record {
            tokens = fields_next list place next _ _ _ there c.loop-place.invariant.tokens
                w.in_ok-write_json_field.ensures.ok;
            before = w.in_ok-write_json_field.ensures.before ∙ c.loop-place.invariant.before;
          })
      | in_default w ↦
          let below : place < length list = rw c.len-place-end.ensures at c.loop-place-test.true in
          let above : length list ≤ place = w.in_default.ensures in
          absurd (omega arith)
    ]

pub returns : goal.returns
returns c =
    let list = c.args.list.now in
    let above : length list ≤ c.loop-place.place =
    rw c.len-place-end.ensures at c.loop-place-test.false in
    array_written c.end_array.result c.args.writer.now c.key.new.self c.begin_array.new.self
    c.loop-place.writer c.end_array.new.self _ (map field_json list) c.in_ok-key.ensures.ok
    c.in_ok-key.ensures.room.0 c.in_ok-begin_array.ensures.ok c.in_ok-begin_array.ensures.room.0
    (c.loop-place.invariant.tokens ∙ ap (λ (shown : List Field).
    c.begin_array.new.self.tokens ++ flat_map json_tokens (map field_json shown))
    (take_all c.loop-place.place list above))
    c.loop-place.invariant.before c.end_array.ensures
