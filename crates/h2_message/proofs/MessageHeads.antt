-- The method of a head, found field by field.
use Rattle.h2_message.proofs.Names.{◌≡◌, ℕ, ◌+◌, ◌<◌, ◌≤◌, Bool, true, false, cond, List, length}
use Rattle.h2_message.proofs.Names.{drop, get_or, codes, Some, sym, ap, ◌∙◌, bytes_eq}
use Rattle.h2_message.proofs.Names.{drop_of_length-le, drop_more, Field, is_named, value_of}
use Rattle.h2_message.proofs.Names.{value_or_nothing, or_nothing, asks_head}

-- The first `:method` decides.
pub method-here : (head : List Field) (index : ℕ) (other : Field) → index < length head
    → is_named (codes ":method") (get_or head index other) ≡ true
    → asks_head (drop index head) ≡ asks_head head
    → bytes_eq (get_or head index other).value (codes "HEAD") ≡ asks_head head
unfolding value_or_nothing or_nothing value_of
method-here head index other within named so_far =
    sym (ap (λ (b : Bool). bytes_eq (or_nothing (cond b (Some (get_or head index other).value)
    (value_of (codes ":method") (drop (index + 1) head)))) (codes "HEAD")) named)
    ∙ (sym (ap (λ (fields : List Field). asks_head fields) (drop_more head index other within))
    ∙ so_far)

-- Another field is passed over.
pub method-later : (head : List Field) (index : ℕ) (other : Field) → index < length head
    → is_named (codes ":method") (get_or head index other) ≡ false
    → asks_head (drop index head) ≡ asks_head head
    → asks_head (drop (index + 1) head) ≡ asks_head head
unfolding value_or_nothing or_nothing value_of
method-later head index other within named so_far =
    sym (ap (λ (b : Bool). bytes_eq (or_nothing (cond b (Some (get_or head index other).value)
    (value_of (codes ":method") (drop (index + 1) head)))) (codes "HEAD")) named)
    ∙ (sym (ap (λ (fields : List Field). asks_head fields) (drop_more head index other within))
    ∙ so_far)

-- Without one no head asks with HEAD.
pub no-method : (head : List Field) (index : ℕ) → length head ≤ index
    → asks_head (drop index head) ≡ asks_head head → false ≡ asks_head head
unfolding value_or_nothing or_nothing value_of
no-method head index past so_far =
    sym (ap (λ (fields : List Field). asks_head fields) (drop_of_length-le head past)) ∙ so_far
