-- The method is the value of the first field with its name.
use Rattle.h2_message.proofs.Names.{◌≡◌, List, ℕ, Option, Some, None, ap, sym, ◌∙◌, codes, bytes_eq}
use Rattle.h2_message.proofs.Names.{Field}
use Rattle.h2_message.specs.Fields.{value_of, value_or_nothing, or_nothing}
use Rattle.h2_message.proofs.message.list_asks_head.Goals as goal

-- the method of a head, by its first field with the name
method_is : (head : List Field) (found : Option (List ℕ)) → value_of (codes ":method") head ≡ found
    → value_or_nothing (codes ":method") head ≡ or_nothing found
unfolding value_or_nothing
method_is head found is = ap or_nothing is

pub returns-in-Some : goal.returns-in-Some
unfolding or_nothing
returns-in-Some c =
    c.eq.ensures
    ∙ ap (λ (word : List ℕ). bytes_eq c.in-Some.method.now word) c.as_slice.ensures
    ∙ ap (λ (method : List ℕ). bytes_eq method (codes "HEAD"))
    (sym (method_is c.args.head.now (Some c.in-Some.method.now) c.in-Some.ensures))

pub returns-in-None : goal.returns-in-None
unfolding or_nothing
returns-in-None c =
    ap (λ (method : List ℕ). bytes_eq method (codes "HEAD"))
    (sym (method_is c.args.head.now None c.in-None.ensures))
