use Rattle.std.proofs.Common.{◌∙◌, List, ap, codes, true}
use Rattle.hpack.specs.declared.types.field.Field.{Field}
use Rattle.h2_files.specs.Ranges.{unsatisfied_range}
use Rattle.h2_folder.specs.Heads.{text_message, head_and_field}
use Rattle.h2_folder.proofs.messages.unsatisfied_message.Goals as goal

pub returns : goal.returns
returns c =
    c.in_ok-message.ensures
    ∙ ap (λ (head : List Field). text_message 416 head true)
    (c.in_ok-add_unsatisfied.ensures
    ∙ ap (λ (head : List Field). head_and_field (codes "content-range")
    (unsatisfied_range c.args.length) head)
    c.in_ok-head.ensures)
