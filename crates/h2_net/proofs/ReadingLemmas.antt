-- Octets that are read to a room, one read after another.
use Rattle.std.proofs.Common.{◌≡◌, ◌≤◌, ◌+◌, ◌++◌, ℕ, List, length, take, Option, sym, ap, ◌∙◌}
use Rattle.std.proofs.Common.{subst, refl, take-take, arith}
use borrow.Rule.Slice.PartMut.{put_mid}
use Rattle.std.proofs.lemmas.Slice.{take-put_mid}
use Rattle.std.proofs.Math.Seq.{take-append-add}
use Rattle.std.proofs.lemmas.List.{length-take-le}
use Rattle.std.specs.Io.KnownBytes.{Appends}
use Rattle.std.proofs.KnownBytes.{Appends-trans}

-- What a read gives follows the first octets that are there.
pub reads_more : (before between after : Option (List ℕ)) (room rest : List ℕ)
    (filled size count : ℕ) → filled ≤ length room → count ≤ length rest
    → Appends before between (take filled room) → Appends between after (take count rest)
    → Appends before after (take (filled + count) (put_mid filled size room rest))
reads_more before between after room rest filled size count within few first next =
    let whole = take-put_mid filled size room rest (filled + length rest) refl within in
    let front = sym (take-take (filled + count) (filled + length rest)
    (put_mid filled size room rest) (omega arith)) ∙ ap (take (filled + count)) whole in
    let seam : take (filled + count) (take filled room ++ rest)
    ≡ take filled room ++ take count rest =
    ap (λ n. take (n + count) (take filled room ++ rest)) (sym (length-take-le filled room within))
    ∙ take-append-add (take filled room) rest count in
    subst (Appends before after) (sym (front ∙ seam))
    (Appends-trans before between after (take filled room) (take count rest) first next)
