-- Four parts of what waits are written at once.
use Rattle.h2_engines.proofs.Names.{◌≡◌, ℕ, ◌+◌, List, ◌++◌, length, arith, refl, Result}
use Rattle.h2_engines.proofs.Names.{ap, length-append}
use Rattle.std.proofs.Common.{Ok, Bool, true, drop, ◌<◌, [], ◌∷◌, append-nil, nat_lt}
use Rattle.std.proofs.lemmas.Bool.Decides.{nat_tests}
use Rattle.std.specs.Io.{StartsWith}
use Rattle.std.specs.Io.Slices.{io_slice_bytes, io_slices_bytes}
use Rattle.std.specs.declared.io.slices.IoSlice.{IoSlice}
use Rattle.h2_conn.proofs.WaitingParts.{starts_on}
use Rattle.h2_link.specs.Links.{stalled_after}
use Rattle.h2_link.specs.declared.link.LinkFault.{LinkFault}

-- Four parts, each from the end of the one before it on, are first octets of what waits.
pub starts_four : (queue : List ℕ) (at one two three : ℕ) (a b c d : List ℕ)
    → one ≡ at + length a → two ≡ one + length b → three ≡ two + length c
    → StartsWith (drop at queue) a → StartsWith (drop one queue) b
    → StartsWith (drop two queue) c → StartsWith (drop three queue) d
    → StartsWith (drop at queue) (a ++ (b ++ (c ++ (d ++ []))))
starts_four queue at one two three a b c d past_a past_b past_c at_a at_b at_c at_d =
    starts_on queue at one a (b ++ (c ++ (d ++ []))) past_a at_a
    (starts_on queue one two b (c ++ (d ++ [])) past_b at_b
    (starts_on queue two three c (d ++ []) past_c at_c (rw (append-nil d) at_d)))

-- The same of slices with these parts.
pub slices_four : (queue : List ℕ) (at one two three : ℕ) (a b c d : List ℕ)
    (sa sb sc sd : IoSlice) → io_slice_bytes sa ≡ a → io_slice_bytes sb ≡ b
    → io_slice_bytes sc ≡ c → io_slice_bytes sd ≡ d
    → one ≡ at + length a → two ≡ one + length b → three ≡ two + length c
    → StartsWith (drop at queue) a → StartsWith (drop one queue) b
    → StartsWith (drop two queue) c → StartsWith (drop three queue) d
    → StartsWith (drop at queue) (io_slices_bytes (sa ∷ sb ∷ sc ∷ sd ∷ []))
slices_four queue at one two three a b c d sa sb sc sd is_a is_b is_c is_d past_a past_b past_c
    at_a at_b at_c at_d =
    rw (is_a, is_b, is_c, is_d)
    (starts_four queue at one two three a b c d past_a past_b past_c at_a at_b at_c at_d)

-- Slices of which the first has octets have some.
pub slices_some : (a : List ℕ) (sa : IoSlice) (others : List IoSlice) → io_slice_bytes sa ≡ a
    → 0 < length a → 0 < length (io_slices_bytes (sa ∷ others))
slices_some a sa others is some =
    let size = length-append (io_slice_bytes sa) (io_slices_bytes others) in
    omega (arith, size, ap length is, some)

-- A write of some octets that took none has stalled.
pub stalled_at_none : (stalled : Bool) (size : ℕ) (result : Result ℕ LinkFault) → 0 < size
    → result ≡ Ok 0 → stalled_after stalled size result ≡ true
stalled_at_none stalled size result some none =
    let more : nat_lt 0 size ≡ true = grind (arith, nat_tests) in rw (none, more) refl
