-- The object has the members that were written, one after another.
use Rattle.h2_show.proofs.Names.{ℕ, List, Appends, Appends-trans, on_ok_weaker, subst, frame_of, ap, ◌∙◌}
use Rattle.h2_show.proofs.Names.{decoded_listing}
use Rattle.h2_show.specs.JsonLines.{type_name}
use Rattle.h2_show.proofs.JsonLemmas.{json_frame_line}
use Rattle.h2_show.proofs.json_lines.write_json_frame.Goals as goal

pub returns : goal.returns
returns g c =
    let line = json_frame_line c.args.at (frame_of c.args.frame)
    (decoded_listing c.args.decoded c.args.list.now) c.type_name.result.now c.from.result
    c.payload_len.result _ _ _ _ _ _ c.new-writer.ensures.tokens c.in_ok-begin_line.ensures.ok
    c.in_ok-number_member.ensures.ok c.in_ok-number_member-2.ensures.ok
    c.in_ok-frame_members.ensures.ok c.in_ok-list_members.ensures.ok
    (c.type_name.ensures ∙ ap type_name c.kind.ensures) (c.from.ensures ∙ c.stream.ensures)
    c.payload_len.ensures in
    on_ok_weaker c.write_too_large.result (λ last. Appends-trans _ _ _ _ _
    (subst (λ (text : List ℕ). Appends (g.W.Write.contents c.args.out.now)
    (g.W.Write.contents c.end_line.new.out) text) line c.in_ok-end_line.ensures) last)
    c.write_too_large.ensures
