-- Parts of what waits, each from the end of the one before it on, are first octets of that.
use Rattle.std.proofs.Common.{◌≡◌, ◌≤◌, ℕ, ◌+◌, List, ◌++◌, length, take, drop, ap, ◌∙◌, subst}
use Rattle.std.proofs.Common.{arith, length-append, length-drop, take-add, drop-drop}
use Rattle.std.proofs.Transfers.{starts_with_length}
use Rattle.std.specs.Io.{StartsWith}

-- Octets begin with one part, and what follows that with another: they begin with both.
pub starts_both : (all first second : List ℕ) → StartsWith all first
    → StartsWith (drop (length first) all) second → StartsWith all (first ++ second)
starts_both all first second one two =
    ap (λ n. take n all) (length-append first second)
    ∙ take-add (length first) (length second) all
    ∙ ap (λ xs. xs ++ take (length second) (drop (length first) all)) one
    ∙ ap (λ xs. first ++ xs) two

-- The same of parts of a queue.
pub starts_on : (queue : List ℕ) (at past : ℕ) (first second : List ℕ)
    → past ≡ at + length first → StartsWith (drop at queue) first
    → StartsWith (drop past queue) second → StartsWith (drop at queue) (first ++ second)
starts_on queue at past first second follows one two =
    starts_both (drop at queue) first second one
    (rw (drop-drop (length first) at queue) (subst (λ k. StartsWith (drop k queue) second)
    follows two))

-- A part lies within the queue.
pub within_queue : (queue : List ℕ) (at : ℕ) (part : List ℕ) → StartsWith (drop at queue) part
    → at ≤ length queue → at + length part ≤ length queue
within_queue queue at part starts within =
    let short = starts_with_length (drop at queue) part starts in
    omega (arith, short, within, length-drop at queue)
