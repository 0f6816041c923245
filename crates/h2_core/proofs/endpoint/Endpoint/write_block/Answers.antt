-- The frames of the block join the output, and the encoder is the one after it.
use Rattle.h2_core.proofs.Names.{◌≡◌, ◌∷◌, [], ◌++◌, length, ap, sym, ◌∙◌, arith, block_of}
use Rattle.h2_core.proofs.Names.{after_block, block, encoding_of_items, end_view, with_encoder}
use Rattle.h2_core.proofs.Names.{end_of}
use Rattle.h2_core.proofs.CallOutput.{octets_of_block}
use Rattle.h2_core.proofs.StepEnds.{with_waiting}
use Rattle.h2_core.proofs.endpoint.Endpoint.write_block.Goals as goal

pub returns-clause-ok : goal.returns-clause-ok
returns-clause-ok c =
    let e = end_of c.args.self.now in
    let encoded = c.in_ok-encode_frames.ensures.ok in
    let octets = block_of e.output.encoder c.args.fields.now in
    let most = c.most_octets-most.result in
    let fits = c.frames_room-room.ensures.enough c.args.fields.now (sym c.requires.size) most
    e.output.encoder c.args.id c.args.end c.most_octets-most.ensures.least in
    let joined : c.deref.result.now
    ≡ encoding_of_items most (block c.args.id c.args.end octets ∷ []) =
    rw (c.deref.ensures.value, encoded.0, octets_of_block most c.args.id c.args.end octets) in
    let written : c.add_octets.new.self.waiting
    ≡ e.output.waiting ++ encoding_of_items (end_view e).max_payload
    (block c.args.id c.args.end octets ∷ []) =
    rw (
      c.add_octets.ensures.waiting,
      c.reserve.ensures.waiting,
      joined,
      ← c.most_octets-most.ensures.value,
    ) in (
      ap (λ encoder. with_waiting (with_encoder e encoder) c.add_octets.new.self.waiting) encoded.1
          ∙ ap (with_waiting (with_encoder e (after_block e.output.encoder c.args.fields.now)))
          written,
      omega (
        arith,
        c.in_ok-reserve.ensures.ok,
        c.add_octets.ensures.spare,
        fits,
        ap length c.deref.ensures.value,
        ap length encoded.0,
      ),
    )

pub encode_frames-requires-clause-room : goal.encode_frames-requires-clause-room
encode_frames-requires-clause-room c =
    c.frames_room-room.ensures.enough c.args.fields.now (sym c.requires.size)
