-- A call advances and lends the frame, or fails.
use Rattle.h2_wire.proofs.Names.{refl, arith}
use Rattle.std.proofs.lemmas.Result.{err_from_is_err_and}
use Rattle.h2_wire.proofs.CutLemmas.{advances_none, advances_some, not_failed, failed_again}
use Rattle.h2_wire.proofs.CutLemmas.{not_checked, checked_again, memory_again}
use Rattle.h2_wire.specs.Cutter.{FaultsAtHead}
use Rattle.h2_wire.proofs.cutter.Cutter.cut.Goals.{in-None, in-Some}
use Rattle.h2_wire.proofs.cutter.Cutter.cut.Goals as goal

pub returns-in_err-advance : goal.returns-in_err-advance
returns-in_err-advance c =
    let answer = err_from_is_err_and c.from_residual.result c.from_residual.ensures.1 in
    rw (answer.1, answer.2) (
      (refl, λ _. tt, c.in_err-advance.ensures.advances),
      record {
        used = tt;
        all = tt;
        some = tt;
        good = tt;
        failed = failed_again _ _ _ c.in_err-advance.field-0.0 c.in_err-advance.ensures.failed;
        checked =
            checked_again _ _ (λ code. FaultsAtHead c.args.self.now c.args.piece.now code)
            c.in_err-advance.field-0.0 c.in_err-advance.ensures.checked;
        preface = λ inside. memory_again _ _ _ c.in_err-advance.field-0.0
            (c.in_err-advance.ensures.preface inside);
        lent = λ begins. memory_again _ _ _ c.in_err-advance.field-0.0
            (c.in_err-advance.ensures.lent begins);
        none = λ sound empty. memory_again _ _ _ c.in_err-advance.field-0.0
            (c.in_err-advance.ensures.none sound empty);
        after = tt;
      },
    )

pub returns : goal.returns
returns c = elim c.match-advance.branch [
  | in-None w ↦
      let more = rw w.in-None.is at c.in_ok-advance.ensures.advances in
      rw (w.self-is, w.frame-is) (
        (
          refl,
          λ _. tt,
          advances_none _ c.args.piece.now c.in_ok-advance.advance.used _ more,
        ),
        record {
          used = omega (arith, more.all);
          all = λ _. more.all;
          some = λ some. (cc);
          good = tt;
          failed = not_failed _ c.in_ok-advance.advance _ c.in_ok-advance.ensures.failed;
          checked =
              not_checked (λ code. FaultsAtHead c.args.self.now c.args.piece.now code)
              c.in_ok-advance.advance _ c.in_ok-advance.ensures.checked;
          preface = λ inside memory. (cc);
          lent = λ begins memory. (cc);
          none = λ sound empty memory. (cc);
          after = tt;
        },
      )
  | in-Some w ↦
      let ends = rw w.in-Some.is at c.in_ok-advance.ensures.advances in
      rw (w.self-is, w.frame-is) (
        (
          refl,
          λ _. tt,
          advances_some _ c.args.piece.now c.in_ok-advance.advance.used w.in-Some.frame _ _ ends
              w.frame.ensures.value,
        ),
        record {
          used = ends.within;
          all = λ none. (cc);
          some = λ _. ends.some;
          good = w.frame.ensures.good;
          failed = not_failed _ c.in_ok-advance.advance _ c.in_ok-advance.ensures.failed;
          checked =
              not_checked (λ code. FaultsAtHead c.args.self.now c.args.piece.now code)
              c.in_ok-advance.advance _ c.in_ok-advance.ensures.checked;
          preface = λ inside memory. (cc);
          lent = λ begins memory. (cc);
          none = λ sound empty memory. (cc);
          after = tt;
        },
      )
]
