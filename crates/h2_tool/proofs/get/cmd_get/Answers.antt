-- The words are refused, or the window, or the words name one URL, or several.
use Rattle.std.proofs.Common.{◌∙◌, ℕ, Option, ap, is_some, not, refl, sym, inl, inr}
use Rattle.h2_args.specs.Words.{asked_by}
use Rattle.h2_tool.proofs.WordLemmas.{ends_by_words}
use Rattle.h2_tool.proofs.get.cmd_get.Goals as goal

pub returns-in-Err-clause-ends : goal.returns-in-Err-clause-ends
returns-in-Err-clause-ends g c =
    inr (ends_by_words c.in-Err.error _ _ _ c.answer.result c.in-Err.ensures.err c.answer.ensures)

pub returns-then-is_none-clause-ends : goal.returns-then-is_none-clause-ends
returns-then-is_none-clause-ends g c =
    let none = sym (ap (λ (o : Option ℕ). is_some o) c.window_asked.ensures)
    ∙ (c.is_none.ensures ∙ ap not c.if-is_none.true) in
    inl (asked_by c.in-Ok.options, c.in-Ok.ensures.ok, rw none (c.refuse_window.ensures, refl))

pub returns-then-has_others-clause-ends : goal.returns-then-has_others-clause-ends
returns-then-has_others-clause-ends g c =
    let sized = sym (ap (λ (o : Option ℕ). is_some o) c.window_asked.ensures)
    ∙ (c.is_none.ensures ∙ ap not c.if-is_none.false) in
    let others = sym c.has_others.ensures ∙ c.if-has_others.true in
    inl (
      asked_by c.in-Ok.options,
      c.in-Ok.ensures.ok,
      rw sized (rw others c.get_several.ensures.ends),
    )

pub returns-then-has_others-clause-unread : goal.returns-then-has_others-clause-unread
returns-then-has_others-clause-unread g c = λ none.
    c.get_several.ensures.unread (none (asked_by c.in-Ok.options) c.in-Ok.ensures.ok)

pub returns-clause-ends : goal.returns-clause-ends
returns-clause-ends g c =
    let sized = sym (ap (λ (o : Option ℕ). is_some o) c.window_asked.ensures)
    ∙ (c.is_none.ensures ∙ ap not c.if-is_none.false) in
    let one = sym c.has_others.ensures ∙ c.if-has_others.false in
    inl (
      asked_by c.in-Ok.options,
      c.in-Ok.ensures.ok,
      rw sized (rw one c.get_one.ensures.ends),
    )

pub returns-clause-unread : goal.returns-clause-unread
returns-clause-unread g c = λ none.
    c.get_one.ensures.unread (none (asked_by c.in-Ok.options) c.in-Ok.ensures.ok)
