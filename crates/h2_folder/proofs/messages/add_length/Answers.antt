use Rattle.std.proofs.Common.{◌≡◌, ◌∙◌, ℕ, List, ap, codes}
use Rattle.std.specs.Prelude.{decimal}
use Rattle.h2_folder.specs.Heads.{head_and_field}
use Rattle.h2_folder.proofs.messages.add_length.Goals as goal

pub returns : goal.returns
returns c =
    let digits : c.new.result ≡ decimal c.args.length =
    c.new.ensures ∙ ap (λ octets. octets.items) c.into_bytes-digits.ensures.value
    ∙ c.in_ok-to_string.ensures.ok in
    c.in_ok-add.ensures
    ∙ ap (λ (value : List ℕ). head_and_field (codes "content-length") value c.args.head.now.items)
    digits
