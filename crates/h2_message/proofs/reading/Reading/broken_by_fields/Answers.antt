use Rattle.h2_message.proofs.Names.{Part, Bool, AtHead, InBody, AtEnd, FieldsPart, sym, ◌∙◌}
use Rattle.h2_message.proofs.BrokenParts.{named_at, rule_at_head, rule_of_trailers, rule_of_order}
use Rattle.h2_message.proofs.BrokenParts.{rule_at_end}
use Rattle.h2_message.proofs.BrokenParts.{short_is}
use Rattle.h2_message.proofs.Names.{◌≡◌, ap, refl, not, [], ◌∷◌, BadLength, first_broken, is_short}
use Rattle.h2_message.specs.declared.malformed.Malformed.TheVariants.{BadOrder}
use Rattle.std.specs.Prelude.{◌&&◌}
use Rattle.h2_message.proofs.reading.Reading.broken_by_fields.Goals.{then-end, else-end}
use Rattle.h2_message.proofs.reading.Reading.broken_by_fields.Goals as goal

pub returns-in-AtHead : goal.returns-in-AtHead
returns-in-AtHead c reads parts follows =
    let list = c.args.list.now in
    let end = c.args.end in
    named_at reads parts (FieldsPart list, end) AtHead _ (rw c.in-AtHead.is at follows.phase)
    (c.broken_by_head.ensures ∙ rw follows.reads_is (sym (rule_at_head reads list end)))

pub returns-in-Some : goal.returns-in-Some
returns-in-Some c reads parts follows =
    let list = c.args.list.now in
    let end = c.args.end in
    let left = c.in-InBody.left in
    named_at reads parts (FieldsPart list, end) (InBody left) _ (rw c.in-InBody.is at follows.phase)
    (rule_of_trailers reads list end left c.in-Some.rule
    (sym (c.broken_by_trailers.ensures list c.scan_list-trailers.ensures) ∙ c.in-Some.is))

pub returns-in-None : goal.returns-in-None
returns-in-None c reads parts follows =
    let list = c.args.list.now in
    let end = c.args.end in
    let left = c.in-InBody.left in
    let test : c.if-end.short ≡ (end && is_short left) =
    elim c.if-end.branch [
      | then-end w ↦ rw (w.if-end.true, w.short-is, w.unwrap_or.ensures) (sym (short_is left))
      | else-end w ↦ w.short-is ∙ rw w.if-end.false refl
    ] in
    named_at reads parts (FieldsPart list, end) (InBody left) _ (rw c.in-InBody.is at follows.phase)
    (c.first_broken.ensures
    ∙ ap (λ (short : Bool). first_broken ((short, BadLength) ∷ (not end, BadOrder) ∷ [])) test
    ∙ rule_of_order reads list end left
    (sym (c.broken_by_trailers.ensures list c.scan_list-trailers.ensures) ∙ c.in-None.is))

pub returns-in-AtEnd : goal.returns-in-AtEnd
returns-in-AtEnd c reads parts follows =
    let part : Part × Bool = (FieldsPart c.args.list.now, c.args.end) in
    named_at reads parts part AtEnd _ (rw c.in-AtEnd.is at follows.phase) (rule_at_end reads part)
