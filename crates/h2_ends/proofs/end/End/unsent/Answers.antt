-- By what is kept of the stream.
use Rattle.h2_ends.proofs.Names.{◌≡◌, sym, ◌∙◌, arith, length, ◌-◌}
use Rattle.h2_ends.proofs.Unsent.{octets_kept, unsent_here, none_kept, some_kept}
use Rattle.h2_ends.proofs.end.End.unsent.Goals as goal

pub returns-in_default : goal.returns-in_default
unfolding octets_kept
returns-in_default c = λ values end is.
    unsent_here values c.args.self.now end c.args.id _ c.in_default.ensures.value is

pub returns-in-Waiting : goal.returns-in-Waiting
returns-in-Waiting c = λ values end is.
    let waiting = c.in-Waiting.waiting in
    let left : c.saturating_sub.result ≡ length waiting.body.items - waiting.sent =
    omega (arith, c.saturating_sub.ensures, c.len.ensures) in
    left ∙ sym (some_kept c.in-Some.stream.now.outgoing waiting c.in-Waiting.is)
    ∙ unsent_here values c.args.self.now end c.args.id _ c.in-Some.ensures.value is

pub returns-in_default-outgoing : goal.returns-in_default-outgoing
returns-in_default-outgoing c = λ values end is.
    sym (none_kept c.in-Some.stream.now.outgoing
    (λ waiting same. c.in_default-outgoing.not-Waiting waiting same))
    ∙ unsent_here values c.args.self.now end c.args.id _ c.in-Some.ensures.value is
