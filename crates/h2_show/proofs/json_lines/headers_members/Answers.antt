-- Member by member.
use Rattle.h2_show.proofs.JsonLemmas.{written_then}
use Rattle.h2_show.proofs.json_lines.headers_members.Goals as goal

pub returns : goal.returns
returns c =
    written_then c.pad_member.result c.args.writer.now c.flag_member.new.writer
    c.pad_member.new.writer _ _ c.in_ok-flag_member.ensures.ok c.in_ok-flag_member.ensures.before
    (written_then c.pad_member.result c.flag_member.new.writer c.flag_member-2.new.writer
    c.pad_member.new.writer _ _ c.in_ok-flag_member-2.ensures.ok
    c.in_ok-flag_member-2.ensures.before
    (written_then c.pad_member.result c.flag_member-2.new.writer c.flag_member-3.new.writer
    c.pad_member.new.writer _ _ c.in_ok-flag_member-3.ensures.ok
    c.in_ok-flag_member-3.ensures.before c.pad_member.ensures))
