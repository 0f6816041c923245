-- By the lemmas on GOAWAY: it is never refused, and has 17 octets.
use Rattle.std.proofs.Common.{arith, sym}
use Rattle.h2_output.proofs.EncodingLemmas.{length-goaway, goaway-written}
use Rattle.h2_output.proofs.output.Output.end_with_goaway.Goals as goal

pub encode-requires-clause-writable : goal.encode-requires-clause-writable
encode-requires-clause-writable c = goaway-written c.args.last _ c.requires.number

pub encode-requires-clause-room : goal.encode-requires-clause-room
encode-requires-clause-room c = omega (arith, length-goaway)

pub copy_from_slice-requires : goal.copy_from_slice-requires
copy_from_slice-requires c =
    rw (c.deref.ensures.value, c.encode.ensures.items) (sym (length-goaway _ _))
