use Rattle.std.proofs.Common.{◌∙◌, ℕ, List, ap, codes, true}
use Rattle.hpack.specs.declared.types.field.Field.{Field}
use Rattle.h2_folder.specs.Heads.{text_message, head_and_field}
use Rattle.h2_folder.proofs.messages.method_message.Goals as goal

pub returns : goal.returns
returns c =
    c.in_ok-message.ensures
    ∙ ap (λ (head : List Field). text_message 405 head true)
    (c.in_ok-add.ensures
    ∙ ap (λ (value : List ℕ). head_and_field (codes "allow") value c.in_ok-head.head.items)
    c.from_static.ensures
    ∙ ap (λ (head : List Field). head_and_field (codes "allow") (codes "GET, HEAD") head)
    c.in_ok-head.ensures)
