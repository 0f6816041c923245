use Rattle.h2_ends.proofs.Names.{refl, sym, ap, ◌∙◌, AnswersRefusal}
use Rattle.h2_ends.proofs.TakeRefusing.{refused, end_unread, kept_unread}
use Rattle.h2_ends.specs.Taking.{with_unread}
use Rattle.h2_ends.proofs.end.End.refuse.Goals as goal

pub returns-in-Some-clause-answers : goal.returns-in-Some-clause-answers
unfolding AnswersRefusal
returns-in-Some-clause-answers c = λ values end is.
    let old = c.args.self.now in
    let made = refused values (end_unread old c.args.id c.args.unread) (record old {
      conn = c.refuse-refused.new.self;
      spans = record old.spans { malformed = c.refused_last-self.result };
    }) c.args.id c.code-code.result _ (with_unread end c.args.id c.args.unread)
    c.refuse-refused.ensures refl refl
    (ap (λ last. record old.spans { malformed = last }) c.refused_last-self.ensures)
    (kept_unread values old c.args.id c.args.unread end is) in
    let now = c.forget_if_over.ensures.represents values _ made.2 in
    rw (← c.code-code.ensures) (
      made.0,
      made.1,
      (sym (c.failed.ensures values _ now.streams.conn) ∙ c.in-Some.is, now),
    )

pub returns-in-None-clause-answers : goal.returns-in-None-clause-answers
unfolding AnswersRefusal
returns-in-None-clause-answers c = λ values end is.
    let old = c.args.self.now in
    let made = refused values (end_unread old c.args.id c.args.unread) (record old {
      conn = c.refuse-refused.new.self;
      spans = record old.spans { malformed = c.refused_last-self.result };
    }) c.args.id c.code-code.result _ (with_unread end c.args.id c.args.unread)
    c.refuse-refused.ensures refl refl
    (ap (λ last. record old.spans { malformed = last }) c.refused_last-self.ensures)
    (kept_unread values old c.args.id c.args.unread end is) in
    let now = c.forget_if_over.ensures.represents values _ made.2 in
    rw (← c.code-code.ensures) (
      made.0,
      made.1,
      (sym (c.failed.ensures values _ now.streams.conn) ∙ c.in-None.is, now),
    )
