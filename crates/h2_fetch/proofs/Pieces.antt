-- The octets of a buffer that were read and not used yet.
use Rattle.h2_engines.proofs.Names
use Names.{◌≡◌, ◌≤◌, ℕ, ◌+◌, ◌-◌, List, take, drop, ap, sym, ◌∙◌, arith, drop-drop, drop-take}
use Names.{Result, Ok, Err, LinkError}

-- what was read, without how much
abbrev pub without_count : Result ℕ LinkError → Result (Unit {0}) LinkError
without_count (Ok count) = Ok tt
without_count (Err error) = Err error

-- They are a part of the buffer,
pub unused_is : (buffer : List ℕ) (used filled : ℕ) → used ≤ filled
    → take (filled - used) (drop used buffer) ≡ drop used (take filled buffer)
unused_is buffer used filled within =
    let all : used + (filled - used) ≡ filled = omega (arith, within) in
    sym (drop-take used (filled - used) buffer) ∙ ap (λ (n : ℕ). drop used (take n buffer)) all

-- and once more are used they are fewer.
pub unused_after : (buffer : List ℕ) (used filled more : ℕ) {now : ℕ} → now ≡ used + more
    → drop now (take filled buffer) ≡ drop more (drop used (take filled buffer))
unused_after buffer used filled more is =
    ap (λ (n : ℕ). drop n (take filled buffer)) is ∙ sym (drop-drop more used (take filled buffer))
