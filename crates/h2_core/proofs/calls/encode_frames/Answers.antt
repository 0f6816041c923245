-- A block of a list that may be sent has 65,548 octets at most.
use Rattle.h2_core.proofs.Names.{◌≡◌, arith, block_of}
use Rattle.hpack.proofs.ResultLemmas.{on_ok as unless_err}
use Rattle.h2_core.proofs.CallOutput.{block_within}
use Rattle.h2_core.proofs.calls.encode_frames.Goals as goal

pub spread-requires-clause-length : goal.spread-requires-clause-length
spread-requires-clause-length c =
    let encoded = unless_err c.encode_sized.result (cc c.is_err.ensures.value)
    c.encode_sized.ensures.ok in
    let octets : c.deref.result.now ≡ block_of c.args.encoder.now c.args.fields.now =
    rw (c.deref.ensures.value, encoded.0, c.clear.ensures.items) in
    rw octets (omega (arith, block_within c.args.encoder.now c.args.fields.now))
