-- The place, the words, the end of the line and the list.
use Rattle.h2_show.proofs.Names.{on_ok_weaker}
use Rattle.h2_show.proofs.StyleLemmas.{four_written}
use Rattle.h2_show.proofs.styled_lines.write_styled_frame.Goals as goal

pub returns : goal.returns
returns g c =
    on_ok_weaker c.write_styled_list.result (λ last. four_written _ _ _ _ _ _ _ _ _
    c.in_ok-write_place.ensures c.in_ok-write_frame_words.ensures c.in_ok-write_all.ensures.bytes
    last) c.write_styled_list.ensures
