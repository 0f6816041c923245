-- By the tests, one after another.
use Rattle.h2_ends.proofs.Names.{sym, ◌∙◌, both_ways}
use Rattle.h2_ends.proofs.QuietEnds.{tells_not, not_quiet_down, not_quiet_waiting, not_quiet_due}
use Rattle.h2_ends.proofs.QuietEnds.{not_quiet_owing, quiet_unless}
use Rattle.h2_ends.proofs.end.End.is_quiet.Goals.{then-is_none, else-is_none, then-waiting-eq0}
use Rattle.h2_ends.proofs.end.End.is_quiet.Goals.{else-waiting-eq0, then-due-eq0, else-due-eq0}
use Rattle.h2_ends.proofs.end.End.is_quiet.Goals as goal

pub returns-then-not-owes : goal.returns-then-not-owes
returns-then-not-owes c = elim c.if-due-eq0.branch [
  | then-due-eq0 u ↦ elim c.if-waiting-eq0.branch [
    | then-waiting-eq0 v ↦ elim c.if-is_none.branch [
      | then-is_none w ↦ quiet_unless c.args.self.now c.failed.result c.is_none.result
          c.failed.ensures c.is_none.ensures w.waiting.result w.waiting.ensures.count
          v.due.result v.due.ensures u.owes.result c.could_send.result w.if-is_none.true
          (sym w.value-is ∙ v.if-waiting-eq0.true) (sym v.value-is ∙ u.if-due-eq0.true)
          (sym u.value-is ∙ c.if-not-owes.true) u.owes.ensures.none c.could_send.ensures.some
          c.could_send.ensures.none
      | else-is_none w ↦ absurd
          (both_ways _ (w.value-is ∙ w.if-is_none.false) v.if-waiting-eq0.true)
    ]
    | else-waiting-eq0 v ↦ absurd
        (both_ways _ (v.value-is ∙ v.if-waiting-eq0.false) u.if-due-eq0.true)
  ]
  | else-due-eq0 u ↦ absurd (both_ways _ (u.value-is ∙ u.if-due-eq0.false) c.if-not-owes.true)
]

pub returns-else-not-owes : goal.returns-else-not-owes
returns-else-not-owes c =
    tells_not c.args.self.now c.if-due-eq0.value c.if-not-owes.false (elim c.if-is_none.branch [
      | then-is_none w ↦ elim c.if-waiting-eq0.branch [
        | then-waiting-eq0 v ↦ elim c.if-due-eq0.branch [
          | then-due-eq0 u ↦ not_quiet_owing c.args.self.now c.failed.result c.is_none.result
              c.failed.ensures c.is_none.ensures w.waiting.result w.waiting.ensures.count
              v.due.result v.due.ensures u.owes.result u.owes.ensures.some
              (sym u.value-is ∙ c.if-not-owes.false)
          | else-due-eq0 u ↦ not_quiet_due c.args.self.now c.failed.result c.is_none.result
              c.failed.ensures c.is_none.ensures w.waiting.result w.waiting.ensures.count
              v.due.result v.due.ensures (sym v.value-is ∙ u.if-due-eq0.false)
        ]
        | else-waiting-eq0 v ↦ not_quiet_waiting c.args.self.now c.failed.result
            c.is_none.result c.failed.ensures c.is_none.ensures w.waiting.result
            w.waiting.ensures.count (sym w.value-is ∙ v.if-waiting-eq0.false)
      ]
      | else-is_none w ↦ not_quiet_down c.args.self.now c.failed.result c.is_none.result
          c.failed.ensures c.is_none.ensures w.if-is_none.false
    ])
