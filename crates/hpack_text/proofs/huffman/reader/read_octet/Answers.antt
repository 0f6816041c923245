use Rattle.hpack_text.proofs.Names.{◌/◌, arith, bits_of}
use Rattle.hpack_text.proofs.BitLemmas.{length-bits_of}
use Rattle.hpack_text.proofs.ReadLemmas.{end_in_first_half, read_second_half, reads_length}
use Rattle.hpack_text.proofs.huffman.reader.read_octet.Goals as goal

pub returns-in_err-between-clause-answer : goal.returns-in_err-between-clause-answer
returns-in_err-between-clause-answer c =
    rw c.from_residual.ensures
    (end_in_first_half c.args.out.now.items c.read_half.new.out.items c.args.state c.args.octet
    c.in_err-between.ensures.answer)

pub read_half-requires-2-clause-room : goal.read_half-requires-2-clause-room
read_half-requires-2-clause-room c =
    omega (
      arith,
      reads_length c.args.out.now.items c.read_half.new.out.items c.args.state
          c.in_ok-between.between (bits_of 4 (c.args.octet / 16)) c.in_ok-between.ensures.answer,
      length-bits_of 4 (c.args.octet / 16),
      c.requires.room,
      c.in_ok-between.ensures.capacity,
      c.args.out.now.ok.0,
      c.read_half.new.out.ok.0,
    )

pub returns-clause-answer : goal.returns-clause-answer
returns-clause-answer c =
    read_second_half c.read_half-2.result c.args.out.now.items c.read_half.new.out.items
    c.read_half-2.new.out.items c.args.state c.in_ok-between.between c.args.octet
    c.in_ok-between.ensures.answer c.read_half-2.ensures.answer
