-- The object of the field's members.
use Rattle.h2_show.proofs.Names.{◌∙◌, [], ◌∷◌, codes, Field}
use Rattle.json.specs.Json as json
use Rattle.hpack.specs.FieldLists.{field_lent}
use Rattle.h2_show.specs.JsonLines.{octets_member}
use Rattle.h2_show.proofs.JsonLemmas.{object_written, tokens_then}
use Rattle.h2_show.proofs.json_lines.write_json_field.Goals as goal

pub returns : goal.returns
returns c =
    let field : Field = field_lent c.args.field in
    let all = tokens_then c.begin_object.new.self.tokens c.octets_member.new.writer.tokens
    c.flag_member.new.writer.tokens _ _ c.in_ok-octets_member.ensures.ok
    (tokens_then c.octets_member.new.writer.tokens c.octets_member-2.new.writer.tokens
    c.flag_member.new.writer.tokens _ _ c.in_ok-octets_member-2.ensures.ok
    c.in_ok-flag_member.ensures.ok) in
    object_written c.end_object.result c.args.writer.now c.begin_object.new.self
    c.flag_member.new.writer c.end_object.new.self
    (octets_member (codes "name") field.name ∷ octets_member (codes "value") field.value
    ∷ (codes "never_indexed", json.boolean field.sensitive) ∷ [])
    c.in_ok-begin_object.ensures.ok c.in_ok-begin_object.ensures.room.0 all
    (c.in_ok-flag_member.ensures.before ∙ c.in_ok-octets_member-2.ensures.before
    ∙ c.in_ok-octets_member.ensures.before) c.end_object.ensures
