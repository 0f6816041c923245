-- The words are refused, or both sides of the text are shown, or can't be.
use Rattle.std.proofs.Common.{ap, ℕ, List, option_map}
use Rattle.std.specs.Borrow.{Bor}
use Rattle.h2_args.specs.Words.{follow_asked_by}
use Rattle.h2_tool.proofs.WordLemmas.{follow_fails}
use Rattle.h2_tool.proofs.InputLemmas.{follow_ends_so, follow_ends_with_page, text_ends_so}
use Rattle.h2_tool.proofs.follow.cmd_follow.Goals as goal

pub returns-in-Err : goal.returns-in-Err
returns-in-Err g c =
    follow_fails _ _ _ _ c.in-Err.error c.answer.result c.in-Err.ensures.err c.answer.ensures

pub returns-in-Some : goal.returns-in-Some
returns-in-Some g c =
    follow_ends_with_page (follow_asked_by c.in-Ok.asked) _ _ _ _ _ _ c.follow_page.result
    c.in-Ok.ensures.ok (ap (option_map (λ (file : Bor (List ℕ)). file.now)) c.in-Some.is)
    (c.follow_page.ensures _)

pub returns : goal.returns
returns g c =
    follow_ends_so (follow_asked_by c.in-Ok.asked) _ _ _ _ _ c.end_text.result c.in-Ok.ensures.ok
    (ap (option_map (λ (file : Bor (List ℕ)). file.now)) c.in_default.is)
    (text_ends_so c.in-Ok.asked.options _ _ _ c.follow_input-followed.result c.end_text.result
    c.follow_input-followed.ensures.follows c.follow_input-followed.ensures.bad_line
    c.end_text.ensures)
