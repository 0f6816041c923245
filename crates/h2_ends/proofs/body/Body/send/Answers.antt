-- What is sent is that part of the octets, however they are kept.
use Rattle.std.proofs.Common.{◌≡◌, ℕ, ◌+◌, ◌-◌, List, take, drop, ap, sym, ◌∙◌, subst, arith}
use Rattle.h2_spec_log.specs.Acts.{SendData, Count}
use Rattle.h2_conn.specs.Conn.{ConnAnswers, answer_by}
use Rattle.h2_ends.specs.Bodies.{BodyOctets, octets_kept_in, part_of}
use Rattle.h2_ends.proofs.body.Body.send.Goals as goal

-- Octets up to a place that lies so many on are so many from there on.
part_is : (body : BodyOctets) (octets : List ℕ) (from count : ℕ) → octets ≡ body.items
    → take (from + count - from) (drop from octets) ≡ part_of body from count
part_is body octets from count same =
    let size : from + count - from ≡ count = omega arith in
    ap (λ (n : ℕ). take n (drop from octets)) size
    ∙ ap (λ (xs : List ℕ). take count (drop from xs)) same

pub returns-in-Own-clause-answers : goal.returns-in-Own-clause-answers
returns-in-Own-clause-answers c =
    let kept = c.deref.ensures.value ∙ (sym (ap octets_kept_in c.in-Own.is)
    ∙ ap (λ (b : BodyOctets). b.items) c.self.view_is) in
    subst (λ (xs : List ℕ). ConnAnswers c.args.conn.now (SendData c.args.id xs c.args.end)
    (answer_by (λ count. Count count) c.data.result) c.data.new.self)
    (part_is c.args.self.now _ c.args.from c.args.count kept) c.data.ensures.answers

pub returns-in-Ok-clause-answers : goal.returns-in-Ok-clause-answers
returns-in-Ok-clause-answers c =
    let kept = sym (ap octets_kept_in c.in-Shared.is)
    ∙ ap (λ (b : BodyOctets). b.items) c.self.view_is in
    subst (λ (xs : List ℕ). ConnAnswers c.args.conn.now (SendData c.args.id xs c.args.end)
    (answer_by (λ count. Count count) c.data_shared.result) c.data_shared.new.self)
    (c.in-Ok.ensures.ok ∙ part_is c.args.self.now _ c.args.from c.args.count kept)
    c.data_shared.ensures.answers

pub returns-in-Err-clause-answers : goal.returns-in-Err-clause-answers
returns-in-Err-clause-answers c =
    let kept = c.as_slice.ensures ∙ (sym (ap octets_kept_in c.in-Shared.is)
    ∙ ap (λ (b : BodyOctets). b.items) c.self.view_is) in
    subst (λ (xs : List ℕ). ConnAnswers c.args.conn.now (SendData c.args.id xs c.args.end)
    (answer_by (λ count. Count count) c.data-in-Err.result) c.data-in-Err.new.self)
    (part_is c.args.self.now _ c.args.from c.args.count kept) c.data-in-Err.ensures.answers
