-- A frame in the piece begins with its head.
use Rattle.h2_wire.proofs.Names.{ℕ, ◌+◌, ◌-◌, take, drop, drop-drop, ap, sym, ◌∙◌, arith, drop-take}
use Rattle.h2_wire.proofs.buffer.Buffer.payload.Goals as goal

pub returns-in-Piece : goal.returns-in-Piece
returns-in-Piece c =
    let piece = c.args.piece.now in
    let count : ℕ = c.args.head.length in
    let start : ℕ = c.in-Piece.start in
    rw c.in-Piece.is
    (ap (λ (n : ℕ). take n (drop (start + 9) piece)) {x = start + 9 + count - (start + 9)}
    {y = count} (omega arith)
    ∙ sym (drop-take 9 count (drop start piece)
    ∙ ap (take count) (drop-drop 9 start piece)))
