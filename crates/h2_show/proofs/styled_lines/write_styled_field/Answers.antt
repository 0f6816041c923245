-- The words of the field stand between the sequences of their look.
use Rattle.h2_show.proofs.Names.{on_ok_weaker}
use Rattle.h2_show.proofs.StyleLemmas.{four_written}
use Rattle.h2_show.proofs.styled_lines.write_styled_field.Goals as goal

pub returns : goal.returns
returns g c =
    on_ok_weaker c.write_all.result (λ last. four_written _ _ _ _ _ _ _ _ _ c.in_ok-write_if.ensures
    c.in_ok-write_field_words.ensures c.in_ok-write_if-2.ensures last) c.write_all.ensures.bytes
