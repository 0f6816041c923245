-- The next pair is the first of those that remain.
use Rattle.std.proofs.Common.{◌≡◌, length, ◌-◌, ◌∷◌, take, drop, arith, ◌∙◌, ap}
use Rattle.std.proofs.lemmas.List.{take_rest}
use Rattle.h2_frame.specs.Pairs.{pairs_of, first_pair}
use Rattle.byteorder.specs.Endian.{big_number}
use Rattle.h2_frame.proofs.PairLemmas.{pairs_of-none, pairs_of-first}
use Rattle.h2_frame.proofs.pairs.PairIterIterator.next.Goals as goal

pub returns-then-self-lt-PAIR-clause-steps : goal.returns-then-self-lt-PAIR-clause-steps
returns-then-self-lt-PAIR-clause-steps c =
    let none = pairs_of-none c.args.self.now.octets.now c.if-self-lt-PAIR.true in
    (none, none)

pub returns-clause-steps : goal.returns-clause-steps
returns-clause-steps c =
    let octets = c.args.self.now.octets.now in
    let id : c.read_u16-id.result ≡ big_number 2 octets = c.read_u16-id.ensures in
    let value : c.read_u32-value.result ≡ big_number 4 (drop 2 octets) = c.read_u32-value.ensures
    ∙ ap (big_number 4) (take_rest octets 2) in
    let others : take (length octets - 6) (drop 6 octets) ≡ drop 6 octets = take_rest octets 6 in
    rw (id, value, others) (pairs_of-first octets c.if-self-lt-PAIR.false)

pub returns-clause-goes : goal.returns-clause-goes
returns-clause-goes c =
    let octets = c.args.self.now.octets.now in
    let others : take (length octets - 6) (drop 6 octets) ≡ drop 6 octets = take_rest octets 6 in
    let first : length (pairs_of octets) ≡ length (first_pair octets ∷ pairs_of (drop 6 octets)) =
    ap length (pairs_of-first octets c.if-self-lt-PAIR.false) in
    record { on = λ _. (tt, tt, rw others (omega arith)); keeps = tt; rests = λ _. tt }
