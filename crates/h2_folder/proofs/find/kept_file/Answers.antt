-- The head is that of the names and the octets that were copied.
use Rattle.std.proofs.Common.{ℕ, List, length, subst, sym}
use Rattle.h2_files.specs.Paths.{texts}
use Rattle.h2_folder.specs.Recents.{IsPlainHead}
use Rattle.h2_folder.proofs.find.kept_file.Goals as goal

pub invariant_of-result : goal.invariant_of-result
invariant_of-result c =
    let head = c.in_ok-head.head.items in
    subst (λ (names : List (List ℕ)). IsPlainHead names c.args.second c.args.modified
    (length c.in_ok-copy.copy.items) head) (sym c.in_ok-copies.ensures)
    (subst (λ (octets : List ℕ). IsPlainHead (texts c.args.names.now) c.args.second
    c.args.modified (length octets) head) (sym c.in_ok-copy.ensures.items) c.in_ok-head.ensures)
