-- Heads: which octets they are read from, and what a head without fault is.
use Rattle.std.proofs.Common.{◌≡◌, ℕ, ◌<◌, ◌≤◌, ◌^◌, List, ◌++◌, length, drop, None, refl, ap, ◌∙◌}
use Rattle.std.proofs.Common.{arith, get_or, length-drop}
use Rattle.std.proofs.lemmas.Bool.Decides.{nat_tests}
use Rattle.std.proofs.Math.ListN.{get_or-append}
use Rattle.std.proofs.lemmas.List.{drop-append-le}
use Rattle.byteorder.specs.Endian.{big_number}
use Rattle.byteorder.specs.Numbers.{big_from-append}
use Rattle.h2_frame.specs.declared.heads.Head.{Head}
use Rattle.h2_frame.specs.declared.kind.Kind.TheVariants.{Data, Headers}
use Rattle.h2_frame.specs.Heads.{head_of, form_fault, fits_stream, head_fault}

-- a head is read from nine octets
pub head_of-append : (octets more : List ℕ) → 9 ≤ length octets
    → head_of (octets ++ more) ≡ head_of octets
unfolding head_of
head_of-append octets more nine =
    let kind : get_or (octets ++ more) 3 0 ≡ get_or octets 3 0 =
    get_or-append octets more 0 3 (omega arith) in
    let flags : get_or (octets ++ more) 4 0 ≡ get_or octets 4 0 =
    get_or-append octets more 0 4 (omega arith) in
    let stream : big_number 4 (drop 5 (octets ++ more)) ≡ big_number 4 (drop 5 octets) =
    ap (big_number 4) (drop-append-le 5 octets more (omega arith))
    ∙ big_from-append 4 (drop 5 octets) more (simp length-drop (omega arith)) in
    let count : big_number 3 (octets ++ more) ≡ big_number 3 octets =
    big_from-append 3 octets more (omega arith) in
    rw (kind, flags, stream, count) refl

-- a head without fault has a length within the limit
pub length-head_fault : (head : Head) (limit : ℕ) → head_fault head limit ≡ None
    → head.length ≤ limit
unfolding head_fault
length-head_fault head limit sound = grind (arith, nat_tests)

-- a head without fault has none of its form, but for the limit
pub form_fault-head_fault : (head : Head) (limit : ℕ) → head_fault head limit ≡ None
    → form_fault head ≡ None
unfolding head_fault
form_fault-head_fault head limit sound = grind (arith, nat_tests)

-- a head of DATA that has no fault of its form is on a stream
pub stream-Data : (head : Head) → head.kind ≡ Data → form_fault head ≡ None → 0 < head.stream
unfolding form_fault fits_stream
stream-Data head kind sound = grind (arith, nat_tests)

-- a head of HEADERS that has no fault of its form is on a stream
pub stream-Headers : (head : Head) → head.kind ≡ Headers → form_fault head ≡ None → 0 < head.stream
unfolding form_fault fits_stream
stream-Headers head kind sound = grind (arith, nat_tests)

-- a head's stream has 31 bits
pub stream-head_of : (octets : List ℕ) → (head_of octets).stream < 2 ^ 31
unfolding head_of
stream-head_of octets = omega arith
