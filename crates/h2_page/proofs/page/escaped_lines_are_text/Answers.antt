-- Each octet is text.
use Rattle.h2_page.proofs.PageLemmas.{lines_text}
use Rattle.h2_page.proofs.page.escaped_lines_are_text.Goals as goal

pub returns : goal.returns
returns c = lines_text
