-- The first condition that holds refuses; those before it don't hold.
use Rattle.h2_core.proofs.Names.{◌≡◌, None, Some, refl, arith, le-leb, stream_view, stream_at}
use Rattle.h2_core.proofs.Names.{end_of}
use Rattle.h2_core.proofs.CallConditions.{holds_first, others_decide}
use Rattle.h2_core.proofs.endpoint.Endpoint.sendable.Goals as goal

pub returns-then-is_some-clause-err : goal.returns-then-is_some-clause-err
returns-then-is_some-clause-err c = holds_first _ _ _ cc

pub returns-in_default-clause-err : goal.returns-in_default-clause-err
returns-in_default-clause-err c =
    let none : stream_at (end_of c.args.self.now) c.args.id ≡ None = cc c.in_default.ensures in
    others_decide _ _ _ _ (cc) (holds_first _ _ _ (rw none refl))

pub returns-then-stream-clause-err : goal.returns-then-stream-clause-err
returns-then-stream-clause-err c =
    let there : stream_at (end_of c.args.self.now) c.args.id ≡ Some (stream_view c.in-Some.stream) =
    cc c.in-Some.ensures in
    others_decide _ _ _ _ (cc) (others_decide _ _ _ _ (rw there refl)
    (holds_first _ _ _ (rw there c.if-stream.true)))

pub returns-then-len-ge-FULL_OUTPUT-clause-err : goal.returns-then-len-ge-FULL_OUTPUT-clause-err
returns-then-len-ge-FULL_OUTPUT-clause-err c =
    let there : stream_at (end_of c.args.self.now) c.args.id ≡ Some (stream_view c.in-Some.stream) =
    cc c.in-Some.ensures in
    others_decide _ _ _ _ (cc) (others_decide _ _ _ _ (rw there refl)
    (others_decide _ _ _ _ (rw there c.if-stream.false)
    (holds_first _ _ _ (le-leb _ _ (omega arith)))))
