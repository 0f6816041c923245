-- By the lemmas on refusals, and on the octets that are written of parts.
use Rattle.std.proofs.Common.{ℕ, List, ◌++◌, refl, ap, ◌∙◌, arith, append_assoc}
use Rattle.h2_frame.specs.Heads.{head_octets}
use Rattle.h2_frame.specs.FrameParts.{payload_octets}
use Rattle.h2_frame.proofs.FramePartsLemmas.{refusal-too_long, refusal-bad_stream}
use Rattle.h2_frame.proofs.FramePartsLemmas.{refusal-bad_value, refusal-none, encoding_of-parts}
use Rattle.h2_frame.proofs.FramePartsLemmas.{length-encoding_of_parts}
use Rattle.h2_frame.proofs.writing.write_parts.Goals as goal

pub returns-in_default-clause-err : goal.returns-in_default-clause-err
returns-in_default-clause-err c =
    λ frame described. (
      refusal-too_long c.args.parts.now frame described c.in_default.ensures,
      refl,
    )

pub returns-in_default-clause-room : goal.returns-in_default-clause-room
returns-in_default-clause-room c = λ frame described none enough.
    let long = refusal-too_long c.args.parts.now frame described c.in_default.ensures in cc

pub returns-then-not-has_good_stream-clause-err : goal.returns-then-not-has_good_stream-clause-err
returns-then-not-has_good_stream-clause-err c = λ frame described. (
  refusal-bad_stream c.args.parts.now frame described (omega (arith, c.in-Some.ensures))
      (cc),
  refl,
)

pub returns-then-not-has_good_stream-clause-room : goal.returns-then-not-has_good_stream-clause-room
returns-then-not-has_good_stream-clause-room c = λ frame described none enough.
    let bad = refusal-bad_stream c.args.parts.now frame described (omega (arith, c.in-Some.ensures))
    (cc) in cc

pub returns-then-not-parts-clause-err : goal.returns-then-not-parts-clause-err
returns-then-not-parts-clause-err c = λ frame described. (
  refusal-bad_value c.args.parts.now frame described (omega (arith, c.in-Some.ensures))
      (cc) c.if-not-parts.true,
  refl,
)

pub returns-then-not-parts-clause-room : goal.returns-then-not-parts-clause-room
returns-then-not-parts-clause-room c = λ frame described none enough.
    let bad = refusal-bad_value c.args.parts.now frame described (omega (arith, c.in-Some.ensures))
    (cc) c.if-not-parts.true in cc

pub returns-then-is_err-clause-err : goal.returns-then-is_err-clause-err
returns-then-is_err-clause-err c = λ frame described. (
  refusal-none c.args.parts.now frame described (omega (arith, c.in-Some.ensures))
      (cc) c.if-not-parts.false,
  c.reserve.ensures.items,
)

pub returns-then-is_err-clause-room : goal.returns-then-is_err-clause-room
returns-then-is_err-clause-room c = λ frame described none enough.
    let counted = length-encoding_of_parts c.args.parts.now frame c.in-Some.length described
    (omega (arith, c.in-Some.ensures)) in
    let succeeds = c.reserve.ensures.succeeds (omega (arith, counted, enough)) in
    let failed = c.if-is_err.ensures.negation in
    grind arith

pub returns-clause-ok : goal.returns-clause-ok
returns-clause-ok c = λ frame described.
    let parts = c.args.parts.now in (
      refusal-none parts frame described (omega (arith, c.in-Some.ensures))
          (cc) c.if-not-parts.false,
      c.append_payload.ensures.items
          ∙ (ap (λ (xs : List ℕ). xs ++ payload_octets parts) (c.append_head.ensures.items
          ∙ ap (λ (xs : List ℕ).
          xs ++ head_octets parts.kind parts.flags parts.stream c.in-Some.length)
          c.reserve.ensures.items)
          ∙ (append_assoc c.args.out.now.items
          (head_octets parts.kind parts.flags parts.stream c.in-Some.length) (payload_octets parts)
          ∙ ap (λ (xs : List ℕ). c.args.out.now.items ++ xs)
          (encoding_of-parts parts frame c.in-Some.length described
          (omega (arith, c.in-Some.ensures))))),
    )
