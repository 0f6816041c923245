-- A link that copies the next octets of its input to the front of a buffer gives them.
use Rattle.std.proofs.Common.{◌≡◌, ◌≤◌, ◌+◌, ◌-◌, ◌++◌, ℕ, List, length, take, drop, sym, ap, ◌∙◌}
use Rattle.std.proofs.Common.{arith, take-add, length-take, length-drop, length-append}
use Rattle.std.proofs.Math.Seq.{take-append_seam}

-- a list of so many octets is what is in front
take_front : (front others : List ℕ) (count : ℕ) → length front ≡ count
    → take count (front ++ others) ≡ front
take_front front others count all =
    ap (λ n. take n (front ++ others)) (sym all) ∙ take-append_seam front others

-- so many octets after those that were given before, ahead of what the buffer had
pub gives_next : (input given copied others : List ℕ) (used count : ℕ)
    → used + count ≤ length input → take used input ≡ given
    → copied ≡ take (used + count - used) (drop used input)
    → (count ≤ length (copied ++ others))
    × (take (used + count) input ≡ given ++ take count (copied ++ others))
gives_next input given copied others used count within before same =
    let added : used + count - used ≡ count = omega arith in
    let next = same ∙ ap (λ n. take n (drop used input)) added in
    let taken = length-take count (drop used input) in
    let dropped = length-drop used input in
    let all : length copied ≡ count = omega (arith, ap length next) in
    let given_first = ap (λ l. l ++ take count (drop used input)) before in
    let copied_next = sym next ∙ sym (take_front copied others count all) in (
      omega (arith, length-append copied others),
      take-add used count input ∙ given_first ∙ ap (λ l. given ++ l) copied_next,
    )
