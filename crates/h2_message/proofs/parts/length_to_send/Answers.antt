use Rattle.h2_message.proofs.Names.{inl, inr, sym, ◌∙◌, length_to_send}
use Rattle.h2_message.proofs.ReadingRules.{no_content, some_content}
use Rattle.h2_message.proofs.parts.length_to_send.Goals as goal
use Rattle.h2_message.proofs.parts.length_to_send.Goals.{then-to_head-via-then-to_head}
use Rattle.h2_message.proofs.parts.length_to_send.Goals.{
  then-to_head-via-else-to_head+then-has_no_content,
}

pub returns-then-to_head : goal.returns-then-to_head
unfolding length_to_send
returns-then-to_head c fields scan sound =
    elim c.then-to_head.branch [
      | then-to_head-via-then-to_head w ↦
          rw (no_content c.args.to_head fields (inl w.if-to_head.true))
      | then-to_head-via-else-to_head+then-has_no_content w ↦
          rw (no_content c.args.to_head fields
          (inr (sym (w.has_no_content.ensures fields scan) ∙ w.if-has_no_content.true)))
    ]

pub returns : goal.returns
unfolding length_to_send
returns c fields scan sound =
    rw (some_content c.args.to_head fields c.if-to_head.false
    (sym (c.has_no_content.ensures fields scan) ∙ c.if-has_no_content.false)) (scan.length sound)
