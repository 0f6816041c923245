use Rattle.h2_core.proofs.Names.{◌≡◌, ◌++◌, ℕ, [], Some, refl, sym, ap, subst, ◌∙◌, DecoderState}
use Rattle.h2_core.proofs.Names.{encoding_of, GoAway, block, Decoded, End, end_of, IsSoundEnd}
use Rattle.h2_core.proofs.Names.{TakesItem}
use Rattle.std.proofs.Common.{Ok, Err}
use Rattle.h2_core.proofs.FrameFailures.{table_sound, block_taken, block_stopped, undecoded_fails}
use Rattle.h2_core.proofs.FrameFailures.{alike, at_table, from_table, stopped_same, stopped_small}
use Rattle.h2_core.proofs.FrameFailures.{held, with_decoder}
use Rattle.h2_core.proofs.endpoint.Endpoint.take_block.Goals.{In-Ok, In-Err-take_decoded}
use Rattle.h2_core.proofs.endpoint.Endpoint.take_block.Goals as goal

pub returns-in-Err : goal.returns-in-Err
returns-in-Err c =
    let e : End = end_of c.args.self.now in
    let waits = c.end_with_goaway.ensures.waiting
    ∙ ap (λ (n : ℕ). e.output.waiting ++ encoding_of (GoAway e.streams.last_processed n []))
    c.number.ensures in
    let code = c.code_of_fault-code.result in
    let failed = alike e _ code e.streams.last_processed refl refl refl refl refl waits in
    undecoded_fails e _ c.args.id c.args.end c.args.octets.now c.in-Err.fault code
    c.code_of_fault-code.ensures (c.in-Err.ensures.fault (c.args.self.now.decodes c.requires.up))
    failed

-- An end with the decoder after the block is sound.
decoded_sound : (c : In-Ok)
    → IsSoundEnd (with_decoder (end_of c.args.self.now) c.decode_into.new.self)
decoded_sound c =
    let e : End = end_of c.args.self.now in
    let d = c.in-Ok.ensures.ok.1 in
    from_table e c.decode_into.new.self d.after IsSoundEnd d.state
    (table_sound e c.args.octets.now d.fields d.after c.requires.sound d.block)

-- What stops the block, and that it has changed nothing.
stopped : (c : In-Err-take_decoded)
    → TakesItem (with_decoder (end_of c.args.self.now) c.decode_into.new.self)
    (Some (record { fields = c.in-Ok.ensures.ok.1.fields; after = c.in-Ok.ensures.ok.1.after }))
    (block c.args.id c.args.end c.args.octets.now) c.take_decoded.new.self.list
    (Err c.in-Err-take_decoded.stop) (end_of c.take_decoded.new.self)
stopped c =
    let d = c.in-Ok.ensures.ok.1 in
    let h = held c.in-Ok.decoded d.fields c.decode_into.new.list d.holds in
    c.in-Err-take_decoded.ensures (record { fields = d.fields; after = d.after })
    c.args.octets.now (sym (ap (λ (s : DecoderState). s.table) d.state))
    (h.size ∙ sym c.eq-too_large.ensures)
    (λ small. h.same (sym c.eq-too_large.ensures ∙ small))

same : (c : In-Err-take_decoded) → end_of c.take_decoded.new.self
    ≡ with_decoder (end_of c.args.self.now) c.decode_into.new.self
same c =
    stopped_same (with_decoder (end_of c.args.self.now) c.decode_into.new.self)
    (end_of c.take_decoded.new.self) _ (block c.args.id c.args.end c.args.octets.now)
    c.take_decoded.new.self.list c.in-Err-take_decoded.stop (stopped c)

pub take_decoded-requires-clause-sound : goal.take_decoded-requires-clause-sound
take_decoded-requires-clause-sound c =
    decoded_sound (goal.at.take_decoded-requires-clause-sound c).In-Ok

pub fail_by-requires-clause-sound : goal.fail_by-requires-clause-sound
fail_by-requires-clause-sound c =
    subst IsSoundEnd (sym (same (goal.at.fail_by-requires-clause-sound c).In-Err-take_decoded))
    (decoded_sound (goal.at.fail_by-requires-clause-sound c).In-Ok)

pub fail_by-requires-clause-up : goal.fail_by-requires-clause-up
fail_by-requires-clause-up c =
    ap (λ (x : End). x.failed) (same (goal.at.fail_by-requires-clause-up c).In-Err-take_decoded)
    ∙ c.requires.up

pub fail_by-requires-clause-opened : goal.fail_by-requires-clause-opened
fail_by-requires-clause-opened c =
    stopped_small (with_decoder (end_of c.args.self.now) c.decode_into.new.self)
    (end_of c.take_decoded.new.self) _ c.args.id c.args.end c.args.octets.now
    c.take_decoded.new.self.list c.in-Err-take_decoded.stop c.requires.number.1
    (stopped (goal.at.fail_by-requires-clause-opened c).In-Err-take_decoded)

pub returns-in-Ok-take_decoded : goal.returns-in-Ok-take_decoded
returns-in-Ok-take_decoded c =
    let e : End = end_of c.args.self.now in
    let d = c.in-Ok.ensures.ok.1 in
    let h = held c.in-Ok.decoded d.fields c.decode_into.new.list d.holds in
    let one : Decoded = record { fields = d.fields; after = d.after } in
    let taken = c.in-Ok-take_decoded.ensures one c.args.octets.now
    (sym (ap (λ (s : DecoderState). s.table) d.state)) (h.size ∙ sym c.eq-too_large.ensures)
    (λ small. h.same (sym c.eq-too_large.ensures ∙ small)) in
    block_taken e c.args.id c.args.end c.args.octets.now one c.take_decoded.new.self.list
    c.in-Ok-take_decoded.reported (end_of c.take_decoded.new.self) c.requires.up d.block
    (at_table e c.decode_into.new.self d.after
    (λ (x : End). TakesItem x (Some one) (block c.args.id c.args.end c.args.octets.now)
    c.take_decoded.new.self.list (Ok c.in-Ok-take_decoded.reported)
    (end_of c.take_decoded.new.self)) d.state taken)

pub returns-in-Err-take_decoded : goal.returns-in-Err-take_decoded
returns-in-Err-take_decoded c =
    let e : End = end_of c.args.self.now in
    let d = c.in-Ok.ensures.ok.1 in
    let one : Decoded = record { fields = d.fields; after = d.after } in
    block_stopped e (end_of c.take_decoded.new.self) (end_of c.fail_by.new.self) c.args.id
    c.args.end c.args.octets.now one c.take_decoded.new.self.list c.in-Err-take_decoded.stop
    c.fail_by.result d.block
    (at_table e c.decode_into.new.self d.after
    (λ (x : End). TakesItem x (Some one) (block c.args.id c.args.end c.args.octets.now)
    c.take_decoded.new.self.list (Err c.in-Err-take_decoded.stop)
    (end_of c.take_decoded.new.self)) d.state
    (stopped (goal.at.returns-in-Err-take_decoded c).In-Err-take_decoded))
    c.fail_by.ensures
