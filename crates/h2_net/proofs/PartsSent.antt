-- What sending octets that are held, and others that lie in several parts, makes of all that a
-- link has taken.
use Rattle.std.proofs.Common.{◌≡◌, ◌≤◌, ◌<◌, ℕ, ◌-◌, ◌+◌, List, [], ◌++◌, length, take, drop}
use Rattle.std.proofs.Common.{Bool, Option, Result, Ok, Err, refl, sym, ap, ◌∙◌, subst, arith}
use Rattle.std.proofs.Common.{◌∷◌, inl, inr, true, false, nat_lt, take-append-drop, append-nil}
use Rattle.std.proofs.Common.{append_assoc, drop_of_length-le, take-take, length-append}
use Rattle.std.proofs.Common.{length-take, drop-drop}
use Rattle.std.proofs.Math.Seq.{take-append-add}
use Rattle.std.proofs.lemmas.List.{at_drop_more, take-append-le}
use Rattle.std.proofs.lemmas.Bool.{cases_lt}
use Rattle.std.proofs.lemmas.Bool.Decides.{nat_tests}
use Rattle.std.proofs.KnownBytes.{Appends-kept, Appends-nil, Appends-trans, append_known-moved}
use Rattle.std.proofs.Transfers.{starts_with_of_append}
use Rattle.std.proofs.lemmas.List.Concat.{flat_map-append}
use Rattle.std.specs.Prelude.{get_or, min}
use Rattle.std.specs.Io.{StartsWith, WritesAtMost}
use Rattle.std.specs.Io.KnownBytes.{Appends, WriteAppends, append_known}
use Rattle.std.specs.Io.Slices.{io_slice_bytes, io_slices_bytes}
use Rattle.std.specs.declared.io.slices.IoSlice.{IoSlice}
use Rattle.std.specs.Result.{result_unwrap_or}
use Rattle.h2_link.specs.declared.link.LinkFault.{LinkFault}
use Rattle.h2_link.specs.Links.{Takes, TakesFirst, stalled_after}
use Rattle.h2_net.proofs.SendingLemmas.{all_sent, held_is_taken}

-- A write that failed took none.
pub written_bytes : {E : Type 0} (before after : Option (List ℕ)) (result : Result ℕ E)
    (octets : List ℕ) → WriteAppends before after result octets
    → Appends before after (take (result_unwrap_or result 0) octets)
written_bytes before after (Ok count) octets written = written
written_bytes before after (Err error) octets kept =
    Appends-kept before before after [] (Appends-nil before) kept

-- It took no more than there are.
pub written_within : {E : Type 0} (result : Result ℕ E) (octets : List ℕ)
    → WritesAtMost result octets → result_unwrap_or result 0 ≤ length octets
written_within (Ok count) octets within = within
written_within (Err error) octets within = omega arith

-- Nothing is taken where nothing is done.
pub takes_nothing : (known : Option (List ℕ)) (octets : List ℕ) → TakesFirst known known octets 0
takes_nothing known octets = record { within = omega arith; took = Appends-nil known }

-- A call that follows one that took nothing takes what it takes.
pub takes_after_none : (before middle after : Option (List ℕ)) (result : Result ℕ LinkFault)
    (octets : List ℕ) → Appends before middle [] → Takes middle after result octets
    → Takes before after result octets
takes_after_none before middle after (Ok count) octets none so =
    record {
      within = so.within;
      took = Appends-trans before middle after [] (take count octets) none so.took;
    }
takes_after_none before middle after (Err fault) octets none so = (
  so.0,
  record {
    within = so.1.within;
    took = Appends-trans before middle after [] (take so.0 octets) none so.1.took;
  },
)

-- Some octets were taken: that does not stall a link.
pub not_stalled : (stalled : Bool) (octets count : ℕ) → 0 < count
    → stalled ≡ stalled_after stalled octets (Ok count)
not_stalled stalled octets count some = grind (arith, nat_tests)

module _ (before after : Option (List ℕ)) (held parts octets : List ℕ) (sent of_held : ℕ)
    (counted : of_held ≡ min sent (length held)) (within : sent ≤ length (held ++ parts))
    (appended : Appends before after (take sent (held ++ parts)))
    (starts : StartsWith octets parts) where
  -- Of what is held not all was sent: so none of the parts was.
  sent_of_held : sent ≤ length held
      → TakesFirst (append_known before held) (append_known after (drop of_held held)) octets
      (sent - of_held)
  sent_of_held few =
      let same : of_held ≡ sent = omega (arith, counted, few) in
      let none : sent - of_held ≡ 0 = omega (arith, same) in
      let kept = append_known-moved before after (take sent held) (drop sent held) held
      (subst (Appends before after) (take-append-le sent held parts few) appended)
      (sym (take-append-drop sent held)) in
      let was = append_known before held in
      rw (none, same) (record {
        within = omega arith;
        took = Appends-kept was was (append_known after (drop sent held)) [] (Appends-nil was)
            kept;
      })

  -- All that is held was sent, and then some octets of the parts.
  sent_of_parts : length held < sent
      → TakesFirst (append_known before held) (append_known after (drop of_held held)) octets
      (sent - of_held)
  sent_of_parts more =
      let same : of_held ≡ length held = omega (arith, counted, more) in
      let count = sent - length held in
      let left : drop (length held) held ≡ [] = drop_of_length-le held (omega arith) in
      let few : count ≤ length parts = omega (arith, within, length-append held parts, more) in
      let size : length parts ≤ length octets =
      omega (arith, ap length starts, length-take (length parts) octets) in
      let front : take count parts ≡ take count octets =
      ap (take count) (sym starts) ∙ take-take count (length parts) octets few in
      let split : sent ≡ length held + count = omega (arith, more) in
      let all : take sent (held ++ parts) ≡ held ++ take count octets =
      ap (λ n. take n (held ++ parts)) split ∙ take-append-add held parts count
      ∙ ap (λ xs. held ++ xs) front in
      rw (same, left) (record {
        within = omega (arith, few, size);
        took = held_is_taken before after held (take count octets) []
            (all_sent before after (held ++ take count octets) []
            (subst (Appends before after) all appended) refl);
      })

  -- What is held was sent first.
  pub sent_after_held :
      TakesFirst (append_known before held) (append_known after (drop of_held held)) octets
      (sent - of_held)
  sent_after_held = elim (cases_lt (length held) sent) [
    | inl more ↦ sent_of_parts more
    | inr few ↦ sent_of_held few
  ]

-- The part at a place is the first of those from there on.
pub part_there : (parts : List IoSlice) (at : ℕ) (other : IoSlice) → at < length parts
    → io_slice_bytes (get_or parts at other) ≡ io_slices_bytes (take 1 (drop at parts))
part_there parts at other within =
    sym (append-nil (io_slice_bytes (get_or parts at other)))
    ∙ sym (at_drop_more (λ rest. io_slices_bytes (take 1 rest)) parts at other within)

-- The octets of the first parts come before those of the others.
parts_split : (parts : List IoSlice) (count : ℕ) → io_slices_bytes parts
    ≡ io_slices_bytes (take count parts) ++ io_slices_bytes (drop count parts)
parts_split parts count = ap io_slices_bytes (sym (take-append-drop count parts))
    ∙ flat_map-append io_slice_bytes (take count parts) (drop count parts)

-- The first three parts have the first octets of all.
pub first_three : (parts : List IoSlice) (one two three : List ℕ)
    → one ≡ io_slices_bytes (take 1 (drop 0 parts))
    → two ≡ io_slices_bytes (take 1 (drop 1 parts))
    → three ≡ io_slices_bytes (take 1 (drop 2 parts))
    → StartsWith (io_slices_bytes parts) (one ++ (two ++ (three ++ [])))
first_three parts one two three is_one is_two is_three =
    let rest = io_slices_bytes (drop 1 (drop 2 parts)) in
    let a = io_slices_bytes (take 1 parts) in
    let b = io_slices_bytes (take 1 (drop 1 parts)) in
    let c = io_slices_bytes (take 1 (drop 2 parts)) in
    let all : io_slices_bytes parts ≡ a ++ (b ++ (c ++ rest)) =
    parts_split parts 1
    ∙ ap (λ xs. a ++ xs) (parts_split (drop 1 parts) 1
    ∙ ap (λ xs. b ++ xs) (ap io_slices_bytes (drop-drop 1 1 parts)
    ∙ parts_split (drop 2 parts) 1)) in
    let joined : (a ++ (b ++ (c ++ []))) ++ rest ≡ a ++ (b ++ (c ++ rest)) =
    append_assoc a (b ++ (c ++ [])) rest
    ∙ ap (λ xs. a ++ xs) (append_assoc b (c ++ []) rest
    ∙ ap (λ xs. b ++ xs) (append_assoc c [] rest)) in
    rw (is_one, is_two, is_three)
    (starts_with_of_append (io_slices_bytes parts) (a ++ (b ++ (c ++ []))) rest
    (all ∙ sym joined))

-- A write of what is held and of three parts sent what is held first.
pub sent_held_first : {E : Type 0} (before after : Option (List ℕ)) (held : List ℕ)
    (first one two three : IoSlice) (parts : List IoSlice) (result : Result ℕ E) (of_held : ℕ)
    → io_slice_bytes first ≡ held → io_slice_bytes one ≡ io_slices_bytes (take 1 (drop 0 parts))
    → io_slice_bytes two ≡ io_slices_bytes (take 1 (drop 1 parts))
    → io_slice_bytes three ≡ io_slices_bytes (take 1 (drop 2 parts))
    → of_held ≡ min (result_unwrap_or result 0) (length held)
    → WritesAtMost result (io_slices_bytes (first ∷ one ∷ two ∷ three ∷ []))
    → WriteAppends before after result (io_slices_bytes (first ∷ one ∷ two ∷ three ∷ []))
    → TakesFirst (append_known before held) (append_known after (drop of_held held))
    (io_slices_bytes parts) (result_unwrap_or result 0 - of_held)
sent_held_first before after held first one two three parts result of_held is is_one is_two
    is_three counted bound bytes =
    let more =
    io_slice_bytes one ++ (io_slice_bytes two ++ (io_slice_bytes three ++ [])) in
    let all : io_slices_bytes (first ∷ one ∷ two ∷ three ∷ []) ≡ held ++ more =
    ap (λ octets. octets ++ more) is in
    sent_after_held before after held more (io_slices_bytes parts) (result_unwrap_or result 0)
    of_held counted
    (written_within result (held ++ more) (subst (WritesAtMost result) all bound))
    (written_bytes before after result (held ++ more)
    (subst (WriteAppends before after result) all bytes))
    (first_three parts (io_slice_bytes one) (io_slice_bytes two) (io_slice_bytes three) is_one
    is_two is_three)
