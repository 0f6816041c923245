-- By the phase.
use Rattle.h2_wire.proofs.Names.{◌<◌, length, arith, refl, state_of}
use Rattle.h2_wire.proofs.BufferLemmas.{starts_head, starts_payload}
use Rattle.h2_wire.proofs.KeptLemmas.{takes_forgotten}
use Rattle.h2_wire.proofs.buffer.Buffer.take.Goals as goal

pub take_head-requires : goal.take_head-requires
take_head-requires c =
    record { starts = starts_head c.args.self.now c.args.piece.now c.in-Head.is c.requires }

pub take_payload-requires : goal.take_payload-requires
take_payload-requires c =
    record {
      starts =
          starts_payload c.args.self.now c.args.piece.now c.in-Payload.head c.in-Payload.is
          c.requires;
    }

pub take_head-requires-in-Lent : goal.take_head-requires-in-Lent
take_head-requires-in-Lent c =
    let few : length c.clear.new.self.items < 9 = rw c.clear.ensures.items (omega arith) in
    record {
      starts = starts_head _ c.args.piece.now refl (record {
        within = c.requires.within;
        fits = few;
      });
    }

pub returns-in-Head-clause-checked : goal.returns-in-Head-clause-checked
returns-in-Head-clause-checked c = λ code faulty.
    c.take_head.ensures.checked code (rw c.in-Head.is at faulty.head)

pub returns-in-Lent-clause-checked : goal.returns-in-Lent-clause-checked
returns-in-Lent-clause-checked c = λ code faulty.
    c.take_head-in-Lent.ensures.checked code
    (rw c.clear.ensures.items (rw c.in-Lent.is at faulty.head))

pub returns-in-Lent-clause-takes : goal.returns-in-Lent-clause-takes
returns-in-Lent-clause-takes c =
    takes_forgotten (state_of c.args.self.now) _ c.args.piece.now c.take_head-in-Lent.result
    c.take_head-in-Lent.new.self (rw (c.clear.ensures.items, c.in-Lent.is) refl) refl
    c.take_head-in-Lent.ensures.takes

pub returns-in-Preface-clause-checked : goal.returns-in-Preface-clause-checked
returns-in-Preface-clause-checked c = λ code faulty.
    c.take_preface.ensures.checked code (rw c.in-Preface.is at (faulty.with_preface (rw
    c.in-Preface.is refl))) (rw c.in-Preface.is at faulty.head)
