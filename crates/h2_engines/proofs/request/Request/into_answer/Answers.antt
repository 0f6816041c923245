-- The fields and the body of the answer.
use Rattle.h2_engines.proofs.Names.{◌≡◌, refl, length, arith, ap, ◌∙◌}
use Rattle.h2_engines.specs.Answers.{answer_with}
use Rattle.std.proofs.Common.{vec_len}
use Rattle.std.specs.Prelude.{decimal}
use Rattle.h2_engines.proofs.request.Request.into_answer.Goals as goal

pub returns-then-self : goal.returns-then-self
unfolding answer_with
returns-then-self c =
    rw (
      c.if-self.true,
      c.in_ok-push.ensures.items,
      c.in_ok-head.ensures.items,
      c.plain_field.ensures,
      c.from_static.ensures,
      c.new.ensures.items,
    ) refl

pub returns : goal.returns
unfolding answer_with
returns c =
    let same : vec_len c.args.self.text ≡ length c.args.self.text.items =
    omega (arith, c.args.self.text.ok.0) in
    let told : c.in_ok-length.length ≡ decimal (length c.args.self.text.items) =
    c.in_ok-length.ensures ∙ c.as_bytes.ensures.value ∙ c.format.ensures.text
    ∙ ap decimal (c.len.ensures ∙ same) in
    rw (
      c.if-self.false,
      c.in_ok-push-2.ensures.items,
      c.in_ok-push.ensures.items,
      c.in_ok-head.ensures.items,
      c.plain_field.ensures,
      c.plain_field-2.ensures,
      c.from_static.ensures,
      told,
    ) refl
