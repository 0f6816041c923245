-- A queue with spans of other octets between its own: adding to its end, and taking from its front.
use Rattle.std.proofs.Common.{◌≡◌, ℕ, ◌+◌, ◌-◌, ◌<◌, ◌≤◌, List, [], ◌∷◌, ◌++◌, length, take, drop}
use Rattle.std.proofs.Common.{refl, ap, sym, ◌∙◌, arith, append_assoc, length-append, length-drop}
use Rattle.std.proofs.Common.{length-take, drop-drop, take_at, min, inl, inr, slice_index_or}
use Rattle.std.proofs.Common.{drop_of_length-le}
use Rattle.std.proofs.lemmas.Bool.{cases_lt}
use Rattle.std.specs.Io.{StartsWith}
use Rattle.std.proofs.Math.Seq.{take-length, drop-length, drop-append-add}
use Rattle.std.proofs.lemmas.List.{append-nil, take-append-le, drop-append-le, drop-take, drop_more}
use Rattle.h2_output.specs.Woven.{weave, octets_before, octets_shared}
use Rattle.h2_output.specs.declared.span.Span.{Span}

-- All octets are those of the queue and those of the spans.
pub weave-length : (spans : List Span) (queue : List ℕ)
    → length (weave spans queue) ≡ length queue + octets_shared spans
unfolding weave octets_shared
weave-length [] queue = omega arith
weave-length (span ∷ spans) queue =
    let rest = weave spans (drop span.before queue) in
    let sum : length (take span.before queue ++ (span.octets ++ rest))
    ≡ length queue + (length span.octets + octets_shared spans) =
    omega (
      arith,
      length-append (take span.before queue) (span.octets ++ rest),
      length-append span.octets rest,
      length-take span.before queue,
      length-drop span.before queue,
      weave-length spans (drop span.before queue),
    ) in sum

-- What joins the queue comes last.
pub weave-append : (spans : List Span) (queue more : List ℕ) → octets_before spans ≤ length queue
    → weave spans (queue ++ more) ≡ weave spans queue ++ more
unfolding weave octets_before
weave-append [] queue more fits = refl
weave-append (span ∷ spans) queue more fits =
    let sum : span.before + octets_before spans ≤ length queue = fits in
    let rest = weave-append spans (drop span.before queue) more
    (omega (arith, length-drop span.before queue, sum)) in
    let front = take-append-le span.before queue more (omega (arith, sum)) in
    let back = drop-append-le span.before queue more (omega (arith, sum)) in
    let last = weave spans (drop span.before queue) in
    let out = append_assoc (take span.before queue) (span.octets ++ last) more in
    let inner = append_assoc span.octets last more in
    rw (front, back, rest, out, inner) refl

-- So does a span after all of the queue.
pub weave-span : (spans : List Span) (span : Span) (queue : List ℕ)
    → octets_before spans + span.before ≡ length queue
    → weave (spans ++ span ∷ []) queue ≡ weave spans queue ++ span.octets
unfolding weave octets_before
weave-span [] span queue all =
    let sum : 0 + span.before ≡ length queue = all in
    let size : span.before ≡ length queue = omega (arith, sum) in
    let front : take span.before queue ≡ queue = rw size (take-length queue) in
    let back : drop span.before queue ≡ [] = rw size (drop-length queue) in
    rw (front, back, append-nil) refl
weave-span (first ∷ spans) span queue all =
    let sum : first.before + octets_before spans + span.before ≡ length queue = all in
    let rest = weave-span spans span (drop first.before queue)
    (omega (arith, length-drop first.before queue, sum)) in
    let last = weave spans (drop first.before queue) in
    let out = append_assoc (take first.before queue) (first.octets ++ last) span.octets in
    let inner = append_assoc first.octets last span.octets in
    rw (rest, out, inner) refl

-- How many octets of the queue come before the last span, once one is added.
pub before-append : (spans : List Span) (span : Span)
    → octets_before (spans ++ span ∷ []) ≡ octets_before spans + span.before
unfolding octets_before
before-append [] span = omega arith
before-append (first ∷ spans) span =
    let rest = before-append spans span in
    let sum : first.before + octets_before (spans ++ span ∷ [])
    ≡ first.before + octets_before spans + span.before = omega (arith, rest) in sum

-- How many octets the spans have, once one is added.
pub shared-append : (spans : List Span) (span : Span)
    → octets_shared (spans ++ span ∷ []) ≡ octets_shared spans + length span.octets
unfolding octets_shared
shared-append [] span = omega arith
shared-append (first ∷ spans) span =
    let rest = shared-append spans span in
    let sum : length first.octets + octets_shared (spans ++ span ∷ [])
    ≡ length first.octets + octets_shared spans + length span.octets = omega (arith, rest) in sum

-- Where fewer octets are taken than come before the first span, what is left begins with those.
pub early-parts : (span : Span) (spans : List Span) (queue : List ℕ) (left : ℕ)
    → left ≤ span.before → octets_before (span ∷ spans) ≤ length queue
    → drop left (weave (span ∷ spans) queue)
    ≡ take (span.before - left) (drop left queue)
    ++ (span.octets ++ weave spans (drop span.before queue))
unfolding weave octets_before
early-parts span spans queue left few all =
    let fits : span.before + octets_before spans ≤ length queue = all in
    let sum : span.before ≡ left + (span.before - left) = omega (arith, few) in
    let short = drop-append-le left (take span.before queue)
    (span.octets ++ weave spans (drop span.before queue))
    (omega (arith, length-take span.before queue, few, fits)) in
    let part = drop-take left (span.before - left) queue in
    short ∙ ap (λ xs. xs ++ (span.octets ++ weave spans (drop span.before queue)))
    (ap (λ n. drop left (take n queue)) sum ∙ part)

-- Then that span comes after so many octets fewer.
pub weave-early : (span : Span) (spans : List Span) (queue : List ℕ) (left : ℕ)
    → left ≤ span.before → octets_before (span ∷ spans) ≤ length queue
    → drop left (weave (span ∷ spans) queue)
    ≡ weave (record span { before = span.before - left } ∷ spans) (drop left queue)
unfolding weave
weave-early span spans queue left few fits =
    let sum : left + (span.before - left) ≡ span.before = omega (arith, few) in
    let back = drop-drop (span.before - left) left queue in
    early-parts span spans queue left few fits
    ∙ ap (λ rest. take (span.before - left) (drop left queue)
    ++ (span.octets ++ weave spans rest))
    (sym (back ∙ ap (λ n. drop n queue) sum))

-- Where as many octets are taken, those of the first span come next, and then the others.
pub weave-past : (span : Span) (spans : List Span) (queue : List ℕ) (left : ℕ)
    → span.before ≤ left → octets_before (span ∷ spans) ≤ length queue
    → drop left (weave (span ∷ spans) queue)
    ≡ drop (left - span.before) (span.octets ++ weave spans (drop span.before queue))
unfolding weave octets_before
weave-past span spans queue left many all =
    let fits : span.before + octets_before spans ≤ length queue = all in
    let rest = span.octets ++ weave spans (drop span.before queue) in
    let sum : left ≡ length (take span.before queue) + (left - span.before) =
    omega (arith, length-take span.before queue, many, fits) in
    ap (λ n. drop n (take span.before queue ++ rest)) sum
    ∙ drop-append-add (take span.before queue) rest (left - span.before)

-- What is left of a span, of which some octets are taken, comes first.
pub weave-inside : (span : Span) (spans : List Span) (queue : List ℕ) (left : ℕ)
    → left ≤ length span.octets
    → drop left (span.octets ++ weave spans queue)
    ≡ weave (record span { before = 0; octets = drop left span.octets } ∷ spans) queue
unfolding weave
weave-inside span spans queue left few = drop-append-le left span.octets (weave spans queue) few

-- All of a span is taken.
pub weave-beyond : (octets rest : List ℕ) (left : ℕ) → length octets ≤ left
    → drop left (octets ++ rest) ≡ drop (left - length octets) rest
weave-beyond octets rest left many =
    let sum : left ≡ length octets + (left - length octets) = omega (arith, many) in
    ap (λ n. drop n (octets ++ rest)) sum ∙ drop-append-add octets rest (left - length octets)

-- All before a span and all of it are taken.
pub weave-passed : (span : Span) (spans : List Span) (queue : List ℕ) (left : ℕ)
    → span.before ≤ left → length span.octets ≤ left - span.before
    → octets_before (span ∷ spans) ≤ length queue
    → drop left (weave (span ∷ spans) queue)
    ≡ drop (left - span.before - length span.octets) (weave spans (drop span.before queue))
weave-passed span spans queue left many more fits =
    weave-past span spans queue left many fits
    ∙ weave-beyond span.octets (weave spans (drop span.before queue)) (left - span.before) more

-- Octets begin with their first part.
pub starts-append : (all first rest : List ℕ) → all ≡ first ++ rest → StartsWith all first
starts-append all first rest is =
    ap (λ xs. take (length first) xs) is ∙ take_at first rest (length first) refl

-- Of what is left the queue has the first octets, where fewer are taken than come before the first
-- span.
pub early-part : (span : Span) (spans : List Span) (queue : List ℕ) (left : ℕ)
    → left ≤ span.before → octets_before (span ∷ spans) ≤ length queue
    → StartsWith (drop left (weave (span ∷ spans) queue)) (drop left (take span.before queue))
unfolding weave octets_before
early-part span spans queue left few all =
    let fits : span.before + octets_before spans ≤ length queue = all in
    let rest = span.octets ++ weave spans (drop span.before queue) in
    starts-append (drop left (take span.before queue ++ rest))
    (drop left (take span.before queue)) rest
    (drop-append-le left (take span.before queue) rest
    (omega (arith, length-take span.before queue, few, fits)))

-- The first span has them where fewer are taken than it has, after those.
pub inside-part : (span : Span) (spans : List Span) (queue : List ℕ) (left : ℕ)
    → span.before ≤ left → left - span.before ≤ length span.octets
    → octets_before (span ∷ spans) ≤ length queue
    → StartsWith (drop left (weave (span ∷ spans) queue)) (drop (left - span.before) span.octets)
inside-part span spans queue left many few all =
    let rest = weave spans (drop span.before queue) in
    starts-append _ (drop (left - span.before) span.octets) rest
    (weave-past span spans queue left many all
    ∙ drop-append-le (left - span.before) span.octets rest few)

-- No more are dropped than there are.
pub drop-min : (left : ℕ) (xs : List ℕ) → drop (min left (length xs)) xs ≡ drop left xs
drop-min left xs = elim (cases_lt (length xs) left) [
  | inl more ↦
      let all : min left (length xs) ≡ length xs = omega (arith, more) in
      rw all (drop-length xs ∙ sym (drop_of_length-le xs (omega (arith, more))))
  | inr few ↦ let same : min left (length xs) ≡ left = omega (arith, few) in rw same refl
]

-- The span at a place is the first of those from there on.
pub spans-from : (spans : List Span) (i : ℕ) (span : Span) → i < length spans
    → span ≡ slice_index_or spans i span → drop i spans ≡ span ∷ drop (i + 1) spans
spans-from spans i span in_range is =
    drop_more spans i span in_range ∙ ap (λ s. s ∷ drop (i + 1) spans) (sym is)
