use Rattle.hpack_text.proofs.Names.{◌≡◌, ◌++◌, Option, ℕ, ap, ◌∙◌, vec_len, vec_capacity, arith}
use Rattle.hpack_text.proofs.Names.{code, code_if_some, prefix_of, stepped}
use Rattle.hpack_text.proofs.ReadLemmas.{reads_end, reads_symbol, reads_within, room_for_symbol}
use Rattle.hpack_text.proofs.huffman.reader.read_half.Goals as goal

pub returns-in_err-next-clause-answer : goal.returns-in_err-next-clause-answer
returns-in_err-next-clause-answer c =
    rw c.from_residual.ensures
    (reads_end c.args.out.now.items c.args.state c.args.half c.in_err-next.ensures)

pub returns-in_default-clause-answer : goal.returns-in_default-clause-answer
returns-in_default-clause-answer c =
    reads_within c.args.out.now.items c.args.state c.args.half c.in_ok-next.next
    (c.in_ok-next.ensures.0
    ∙ ap (λ (s : Option ℕ). code_if_some s ++ prefix_of c.in_ok-next.next) c.in_default.is)

pub push_reserved-requires : goal.push_reserved-requires
push_reserved-requires c =
    let symbol = c.in-Some.symbol in
    let next = c.in_ok-next.next in
    let e : stepped c.args.state c.args.half ≡ code symbol ++ prefix_of next =
    c.in_ok-next.ensures.0
    ∙ ap (λ (s : Option ℕ). code_if_some s ++ prefix_of next) c.in-Some.is in
    room_for_symbol (vec_len c.args.out.now) c.args.state c.args.half symbol next
    (vec_capacity c.args.out.now) (omega arith) e c.requires.room

pub returns-clause-answer : goal.returns-clause-answer
returns-clause-answer c =
    let symbol = c.in-Some.symbol in
    let next = c.in_ok-next.next in
    let e : stepped c.args.state c.args.half ≡ code symbol ++ prefix_of next =
    c.in_ok-next.ensures.0
    ∙ ap (λ (s : Option ℕ). code_if_some s ++ prefix_of next) c.in-Some.is in
    reads_symbol c.args.out.now.items c.push_reserved.new.self.items c.args.state c.args.half symbol
    next c.push_reserved.ensures.items (omega arith) e
