-- The first condition that holds refuses; those before it don't hold.
use Rattle.h2_core.proofs.Names.{◌≡◌, false, length, sym, arith, le-leb, lt-leb, lt-ltb, le-ltb}
use Rattle.h2_core.proofs.Names.{list_size, conditions, first_of}
use Rattle.std.specs.Prelude.{is_some, nat_le, nat_lt}
use Rattle.h2_core.proofs.CallConditions.{holds_first, others_decide}
use Rattle.h2_core.proofs.endpoint.Endpoint.refusal_of_open.Goals as goal

pub returns-then-is_some : goal.returns-then-is_some
unfolding conditions
returns-then-is_some c = λ fields end is. sym (holds_first _ _ _ (cc))

pub returns-then-has_all_streams : goal.returns-then-has_all_streams
unfolding conditions
returns-then-has_all_streams c = λ fields end is. sym
    (others_decide _ _ _ _ (cc) (holds_first _ _ _ (sym c.if-has_all_streams.ensures)))

pub returns-then-has_no_number : goal.returns-then-has_no_number
unfolding conditions
returns-then-has_no_number c = λ fields end is. sym
    (others_decide _ _ _ _ (cc) (others_decide _ _ _ _ (sym c.if-has_all_streams.ensures)
    (holds_first _ _ _ (sym c.if-has_no_number.ensures))))

pub returns-then-is_going_away : goal.returns-then-is_going_away
unfolding conditions
returns-then-is_going_away c = λ fields end is. sym
    (others_decide _ _ _ _ (cc) (others_decide _ _ _ _ (sym c.if-has_all_streams.ensures)
    (others_decide _ _ _ _ (sym c.if-has_no_number.ensures)
    (holds_first _ _ _ (sym c.if-is_going_away.ensures)))))

pub returns-then-len-ge-FULL_OUTPUT : goal.returns-then-len-ge-FULL_OUTPUT
unfolding conditions
returns-then-len-ge-FULL_OUTPUT c = λ fields end is. sym
    (others_decide _ _ _ _ (cc) (others_decide _ _ _ _ (sym c.if-has_all_streams.ensures)
    (others_decide _ _ _ _ (sym c.if-has_no_number.ensures)
    (others_decide _ _ _ _ (sym c.if-is_going_away.ensures)
    (holds_first _ _ _ (le-leb _ _ (omega arith)))))))

pub returns-then-size : goal.returns-then-size
unfolding conditions
returns-then-size c = λ fields end is. sym
    (others_decide _ _ _ _ (cc) (others_decide _ _ _ _ (sym c.if-has_all_streams.ensures)
    (others_decide _ _ _ _ (sym c.if-has_no_number.ensures)
    (others_decide _ _ _ _ (sym c.if-is_going_away.ensures)
    (others_decide _ _ _ _ (lt-leb _ _ (omega arith))
    (holds_first _ _ _ (lt-ltb _ _ (omega arith))))))))

pub returns-else-size : goal.returns-else-size
unfolding conditions first_of
returns-else-size c =
    let up : is_some c.args.self.now.failed ≡ false = cc in
    let room : nat_le 65536 (length c.args.self.now.output.waiting) ≡ false =
    lt-leb _ _ (omega arith) in
    λ fields end is.
    let small : nat_lt 65536 (list_size fields) ≡ false = le-ltb _ _ (omega arith) in
    rw (
      up,
      ← c.if-has_all_streams.ensures,
      ← c.if-has_no_number.ensures,
      ← c.if-is_going_away.ensures,
      room,
      small,
    )
