use Rattle.std.proofs.Common.{◌≡◌, ◌∙◌, ℕ, List, ap, codes}
use Rattle.std.specs.Prelude.{decimal}
use Rattle.hpack.specs.declared.types.field.Field.{Field}
use Rattle.h2_message.specs.Messages.{response_head}
use Rattle.h2_folder.specs.Heads.{head_and_field}
use Rattle.h2_folder.proofs.messages.status_head.Goals as goal

pub returns : goal.returns
unfolding response_head
returns c =
    let digits : c.new.result ≡ decimal c.args.status =
    c.new.ensures ∙ ap (λ octets. octets.items) c.into_bytes-digits.ensures.value
    ∙ c.in_ok-to_string.ensures.ok in
    c.in_ok-add.ensures
    ∙ ap (λ (value : List ℕ). head_and_field (codes ":status") value c.in_ok-head.head.items) digits
    ∙ ap (λ (head : List Field). head_and_field (codes ":status") (decimal c.args.status) head)
    c.in_ok-head.ensures.items
