use Rattle.std.proofs.Common.{◌≡◌, ◌∙◌, ℕ, List, ap, codes}
use Rattle.h2_files.specs.Ranges.{unsatisfied_range}
use Rattle.h2_folder.specs.Heads.{head_and_field}
use Rattle.h2_folder.proofs.messages.add_unsatisfied.Goals as goal

pub returns : goal.returns
returns c =
    let text : c.new.result ≡ unsatisfied_range c.args.length =
    c.new.ensures ∙ ap (λ octets. octets.items) c.into_bytes.ensures.value
    ∙ c.in_ok-range.ensures in
    c.in_ok-add.ensures
    ∙ ap (λ (value : List ℕ). head_and_field (codes "content-range") value c.args.head.now.items)
    text
