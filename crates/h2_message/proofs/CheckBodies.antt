-- Whether the length of a body is wrong, as the checks say it.
use Rattle.h2_message.proofs.Names.{◌≡◌, ◌||◌, Bool, true, false, List, codes, refl}
use Rattle.h2_message.proofs.Names.{sym, ap, ◌∙◌, bytes_eq, Field, status_of, is_without_content}
use Rattle.hpack.proofs.LimitLemmas.{or_assoc as without-by}

-- What follows a test that holds may be anything.
pub or-where : (bad first second : Bool) → (bad ≡ false → first ≡ second)
    → (bad || first) ≡ (bad || second)
or-where true first second same = refl
or-where false first second same = same refl

-- A response has no content to HEAD, or by its status.
pub without : (to_head none : Bool) (fields : List Field) → none ≡ is_without_content false fields
    → is_without_content to_head fields ≡ (to_head || none)
unfolding is_without_content
without to_head none fields says =
    without-by to_head (bytes_eq (status_of fields) (codes "204"))
    (bytes_eq (status_of fields) (codes "304"))
    ∙ ap (λ (b : Bool). to_head || b) (sym says)
