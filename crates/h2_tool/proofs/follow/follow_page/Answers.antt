-- The page is made of the lines, or it can't be written.
use Rattle.h2_tool.proofs.PageLemmas.{page_so, page_unwritten}
use Rattle.h2_tool.proofs.follow.follow_page.Goals as goal

pub returns-in-Ok : goal.returns-in-Ok
returns-in-Ok g c = λ known.
    page_so c.args.options _ known c.new-lines.result.items c.follow_input-followed.new.out.items
    c.follow_input-followed.result c.end_text.result c.new-lines.ensures.items
    c.follow_input-followed.ensures.follows c.follow_input-followed.ensures.bad_line
    c.end_text.ensures

pub returns : goal.returns
returns g c = λ known.
    page_unwritten c.args.options _ known c.end_unopened.result c.end_unopened.ensures
