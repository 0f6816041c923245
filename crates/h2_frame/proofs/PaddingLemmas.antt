-- What follows the pad length in a payload.
use Rattle.std.proofs.Common.{◌≡◌, ℕ, suc, ◌+◌, ◌-◌, ◌≤◌, List, [], ◌∷◌, ◌++◌, length, take, drop}
use Rattle.std.proofs.Common.{slice_index, sym, ap, arith, length-drop, Option, Some, None}
use Rattle.std.proofs.Common.{replicate, length-append, Bool, true, false, IfSome, refl, ◌∙◌}
use Rattle.std.proofs.Math.Seq.{take-append_seam}
use Rattle.std.proofs.lemmas.List.{take-append-drop}
use Rattle.h2_frame.specs.Frames.{IsPadded, pad_where, unpadded}
use Rattle.h2_frame.specs.Encoding.{padded, prioritized}

-- a payload is its pad length, its body, and so many octets of padding
pub padded_payload : (payload : List ℕ) → 1 + slice_index payload 0 ≤ length payload
    → (padding : List ℕ) × (length padding ≡ slice_index payload 0)
    × (payload ≡ slice_index payload 0
    ∷ (take (length payload - slice_index payload 0 - 1) (drop 1 payload) ++ padding))
padded_payload [] enough = absurd (omega arith)
padded_payload (count ∷ rest) enough = (
  drop (suc (length rest) - count - 1) rest,
  simp length-drop (omega arith),
  ap (λ (x : List ℕ). count ∷ x) (sym (take-append-drop (suc (length rest) - count - 1) rest)),
)

-- What lies between pad length and padding is padded so, where the payload begins with a pad
-- length.
pub unpadded_is_padded : (begins : Bool) (payload : List ℕ) (pad : Option ℕ)
    → IfSome pad (λ count. 1 + count ≤ length payload) → pad ≡ pad_where begins payload
    → IsPadded begins payload (unpadded pad payload) pad
unpadded_is_padded false payload None enough is = (refl, refl)
unpadded_is_padded true payload None enough is = absurd (cc)
unpadded_is_padded false payload (Some count) enough is = absurd (cc)
unpadded_is_padded true payload (Some count) enough is =
    let first : count ≡ slice_index payload 0 = cc in
    let (padding, counted, joined) = padded_payload payload (rw first at enough) in
    (refl, padding, counted ∙ sym first, rw first joined)

-- What is padded so lies between pad length and padding.
pub padded_is_unpadded : (begins : Bool) (payload body : List ℕ) (pad known : Option ℕ)
    → IsPadded begins payload body pad → known ≡ pad_where begins payload
    → (unpadded known payload ≡ body) × IfSome known (λ count. 1 + count ≤ length payload)
padded_is_unpadded begins payload body None known (never, same) is =
    rw (is, never) (same, tt)
padded_is_unpadded begins payload body (Some count) known (set, padding, counted, same) is =
    let first : count ≡ slice_index payload 0 = rw same refl in
    let long : length payload ≡ 1 + (length body + count) =
    ap length same ∙ omega (arith, length-append body padding, counted) in
    rw (is, set) (rw (← first) (
      rw same (ap (λ (n : ℕ). take n (body ++ padding)) {x = _} {y = length body}
          (omega (arith, length-append body padding, counted))
          ∙ take-append_seam body padding),
      omega (arith, long),
    ))

-- a padded body is its padding and the body, counted
pub length-padded_body : (body : List ℕ) (pad : Option ℕ)
    → length (padded body pad) ≡ length (padded [] pad) + length body
length-padded_body body None = omega arith
length-padded_body body (Some count) =
    omega (arith, length-append body (replicate {A = ℕ} count 0))

-- a fragment with its priority is the priority and the fragment, counted
pub length-prioritized_fragment : (fragment : List ℕ) (priority : Option (List ℕ))
    → length (prioritized fragment priority) ≡ length (prioritized [] priority) + length fragment
length-prioritized_fragment fragment None = omega arith
length-prioritized_fragment fragment (Some priority) =
    omega (arith, length-append priority fragment, length-append priority [])
