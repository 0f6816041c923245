use Rattle.h2_message.proofs.Names.{◌≡◌, ap, refl, ◌∙◌}
use Rattle.std.specs.Prelude.{decimal}
use Rattle.h2_message.specs.Messages.{response_head}
use Rattle.h2_message.proofs.message.Message.response.Goals as goal

pub returns : goal.returns
unfolding response_head
returns c =
    let digits : c.new.result ≡ decimal c.args.status =
    c.new.ensures ∙ ap (λ octets. octets.items) c.into_bytes-digits.ensures.value
    ∙ c.in_ok-to_string.ensures.ok in (
      rw (
        c.in_ok-push.ensures.items,
        c.in_ok-head.ensures.items,
        c.named.ensures,
        digits,
      ) refl,
      c.new-2.ensures.items,
      refl,
    )
