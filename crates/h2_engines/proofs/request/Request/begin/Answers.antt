-- The method and the path of the head, and whether it asks with HEAD.
use Rattle.h2_engines.proofs.Names.{◌≡◌, ◌++◌, ◌∷◌, [], List, ℕ, refl, ap, ◌∙◌, arith, bytes_eq}
use Rattle.h2_engines.proofs.NoteHeads.{is_begun}
use Rattle.h2_engines.proofs.request.Request.begin.Goals as goal

pub returns : goal.returns
returns c =
    let method = c.value_or_nothing-method.result.now in
    let path = c.value_or_nothing-path.result.now in
    let text : c.push-2.new.self.items ≡ ((method ++ 32 ∷ []) ++ path) ++ 10 ∷ [] =
    rw (
      c.in_ok-push-2.ensures.items,
      c.in_ok-extend_from_slice-2.ensures.items,
      c.in_ok-push.ensures.items,
      c.in_ok-extend_from_slice.ensures.items,
      c.in_ok-text.ensures.items,
    ) refl in
    let whole = c.push-2.new.self.ok.0 in
    is_begun c.args.head.now _ c.value_or_nothing-method.ensures c.value_or_nothing-path.ensures
    text (omega (arith, c.len.ensures, whole))
    (c.eq.ensures ∙ ap (λ (word : List ℕ). bytes_eq method word) c.as_slice.ensures)
