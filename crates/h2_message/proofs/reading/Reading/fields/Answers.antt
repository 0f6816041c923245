use Rattle.h2_message.proofs.Names.{true, false, inl, inr, refl, InBody, AtEnd}
use Rattle.h2_message.proofs.PhaseSteps.{is_short_above, not_short_at}
use Rattle.h2_message.proofs.ReadingParts.{no_trailers, some_trailers, nothing_after}
use Rattle.h2_message.proofs.ReadingFollows.{head_follows, trailers_follow, fields_refused}
use Rattle.h2_message.proofs.ReadingRules.{known_rule}
use Rattle.h2_message.proofs.reading.Reading.fields.Goals as goal
use Rattle.h2_message.proofs.reading.Reading.fields.Goals.{then-not-end-via-then-not-end}
use Rattle.h2_message.proofs.reading.Reading.fields.Goals.{
  then-not-end-via-else-not-end+then-unwrap_or-gt0,
}
use Rattle.h2_message.proofs.reading.Reading.fields.Goals.{
  then-not-end-via-else-not-end+else-unwrap_or-gt0+then-is_some,
}

pub returns-in-AtHead : goal.returns-in-AtHead
returns-in-AtHead c reads parts follows =
    let kept = c.head.ensures in
    head_follows reads parts c.args.list.now c.args.end c.head.result c.args.self.now
    c.head.new.self follows c.in-AtHead.is kept.phase kept.none kept.place kept.reads
    kept.asks_head kept.asks_none

pub returns-then-not-end : goal.returns-then-not-end
returns-then-not-end c reads parts follows =
    let left = c.in-InBody.left in
    let list = c.args.list.now in
    fields_refused reads parts list c.args.end (InBody left) c.args.self.now c.args.self.now follows
    c.in-InBody.is (no_trailers reads left list c.args.end (elim c.then-not-end.branch [
      | then-not-end-via-then-not-end w ↦ inl w.if-not-end.true
      | then-not-end-via-else-not-end+then-unwrap_or-gt0 w ↦
          inr (inl (is_short_above left (rw w.unwrap_or.ensures at w.if-unwrap_or-gt0.true)))
      | then-not-end-via-else-not-end+else-unwrap_or-gt0+then-is_some w ↦
          inr (inr (known_rule _ _ true w.if-is_some.ensures
          (w.broken_by_trailers.ensures list c.scan_list-trailers.ensures)))
    ])) refl

pub returns-else-is_some : goal.returns-else-is_some
returns-else-is_some c reads parts follows =
    let left = c.in-InBody.left in
    let list = c.args.list.now in
    trailers_follow reads parts list c.args.end left c.args.self.now _ follows c.in-InBody.is
    (some_trailers reads left list c.args.end c.if-not-end.false
    (not_short_at left (rw c.unwrap_or.ensures at c.if-unwrap_or-gt0.false))
    (known_rule _ _ false c.if-is_some.ensures
    (c.broken_by_trailers.ensures list c.scan_list-trailers.ensures))) refl refl

pub returns-in-AtEnd : goal.returns-in-AtEnd
returns-in-AtEnd c reads parts follows =
    fields_refused reads parts c.args.list.now c.args.end AtEnd c.args.self.now c.args.self.now
    follows c.in-AtEnd.is (nothing_after reads c.args.list.now c.args.end) refl
