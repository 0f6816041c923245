-- By the lemmas on how a delivery goes on.
use Rattle.h2_joined.proofs.CodeTakes.{next_handed, next_again, next_whole, next_failed}
use Rattle.h2_joined.proofs.joined.Joined.take_next.Goals as goal

pub returns-then-hands : goal.returns-then-hands
returns-then-hands c =
    next_handed c.args.to c.args.self.now c.make_room.new.self c.take_once.new.self
    c.args.piece.now c.make_room.result c.make_room.ensures c.if-not-make_room.false c.in-Took.used
    (rw c.if-hands.true at c.in-Took.ensures)

pub returns-then-used-piece : goal.returns-then-used-piece
returns-then-used-piece c =
    next_again c.args.to c.args.self.now c.make_room.new.self c.take_once.new.self
    c.args.piece.now c.make_room.result c.make_room.ensures c.if-not-make_room.false c.in-Took.used
    (rw c.if-hands.false at c.in-Took.ensures) c.if-used-piece.true

pub returns-else-used-piece : goal.returns-else-used-piece
returns-else-used-piece c =
    next_whole c.args.to c.args.self.now c.make_room.new.self c.take_once.new.self
    c.args.piece.now c.make_room.result c.make_room.ensures c.if-not-make_room.false c.in-Took.used
    (rw c.if-hands.false at c.in-Took.ensures) c.if-used-piece.false

pub returns-in-Failed : goal.returns-in-Failed
returns-in-Failed c =
    next_failed c.args.to c.args.self.now c.make_room.new.self c.take_once.new.self
    c.args.piece.now c.make_room.result c.make_room.ensures c.if-not-make_room.false
    c.in-Failed.code c.in-Failed.ensures
