-- What stands between the first octets and the last ones is the rest.
use Rattle.std.proofs.Common.{List, ℕ, ◌-◌, codes, length, refl, take, drop}
use Rattle.h2_page.specs.declared.template.TheConstants.{HEAD, END}
use Rattle.h2_page.proofs.page.lines_stand_in_a_text.Goals as goal

-- octets without as many of the first and of the last ones as two texts have
abbrev between : (first last octets : List ℕ) → List ℕ
between first last octets =
    take (length octets - length last - length first) (drop (length first) octets)

pub returns-clause-head : goal.returns-clause-head
returns-clause-head c = (
  between (codes "<!doctype html>\n") (codes "<script type='text/plain' id='lines'>\n") HEAD.now,
  refl,
)

pub returns-clause-end : goal.returns-clause-end
returns-clause-end c = (between (codes "</script>\n") (codes "</html>\n") END.now, refl)
