-- The first condition that holds refuses; where none holds, the block joins the output, and the
-- stream is changed.
use Rattle.h2_core.proofs.Names.{◌≡◌, ◌∷◌, [], ap, sym, ◌∙◌, arith, err_from_is_err_and}
use Rattle.h2_core.proofs.Names.{stream_view, update_stream, End, end_of, conditions}
use Rattle.h2_core.proofs.CallConditions.{refused, lacks_memory, if_err}
use Rattle.hpack.proofs.ResultLemmas.{on_ok as unless_err}
use Rattle.h2_core.proofs.CallSend.{fields_free, fields_large, fields_sent}
use Rattle.h2_laws_log.proofs.CallConditions.{first_kept}
use Rattle.h2_core.proofs.SoundFacts.{counted, owed_fits, send_near, recv_near}
use Rattle.h2_core.proofs.endpoint.Endpoint.send_fields.Goals as goal

pub returns-in_err-stream-clause-err : goal.returns-in_err-stream-clause-err
unfolding conditions
returns-in_err-stream-clause-err c =
    let p = err_from_is_err_and c.from_residual.result c.from_residual.ensures.1 in
    rw (p.1, p.2) (refused _ _ _ (first_kept _ (_ ∷ []) _ c.in_err-stream.ensures.err))

pub returns-then-size-clause-err : goal.returns-then-size-clause-err
returns-then-size-clause-err c =
    let ok = c.in_ok-stream.ensures.ok in
    let e = end_of c.args.self.now in
    refused _ _ _ (fields_large e c.args.id _ c.args.fields.now c.args.end ok.0 ok.1 ok.2 ok.3
    (omega arith))

pub returns-then-is_err-clause-err : goal.returns-then-is_err-clause-err
returns-then-is_err-clause-err c =
    let ok = c.in_ok-stream.ensures.ok in
    let e = end_of c.args.self.now in
    lacks_memory _ _ _ (fields_free e c.args.id _ c.args.fields.now c.args.end ok.0 ok.1 ok.2
    ok.3 (omega arith))
    (if_err c.write_block.result (cc c.is_err.ensures.value) c.write_block.ensures.err)

pub update_stream-requires-clause-near : goal.update_stream-requires-clause-near
update_stream-requires-clause-near c =
    let sound = c.requires.sound c.in_ok-stream.ensures.ok.0 in
    let active = c.in_ok-stream.ensures.ok.1 in
    record {
      send = send_near (end_of c.args.self.now) c.args.id _ sound active;
      recv = recv_near (end_of c.args.self.now) c.args.id _ sound active;
    }

pub update_stream-requires-clause-counted : goal.update_stream-requires-clause-counted
update_stream-requires-clause-counted c =
    let sound = c.requires.sound c.in_ok-stream.ensures.ok.0 in
    let wrote = unless_err c.write_block.result (cc c.is_err.ensures.value) c.write_block.ensures.ok
    in
    omega (
      arith,
      ap (λ (e : End). e.streams.active_count) wrote.0,
      counted (end_of c.args.self.now) c.args.id _ sound c.in_ok-stream.ensures.ok.1,
    )

pub update_stream-requires-clause-window : goal.update_stream-requires-clause-window
update_stream-requires-clause-window c =
    let sound = c.requires.sound c.in_ok-stream.ensures.ok.0 in
    let wrote = unless_err c.write_block.result (cc c.is_err.ensures.value) c.write_block.ensures.ok
    in
    omega (
      arith,
      ap (λ (e : End). e.windows.recv) wrote.0,
      ap (λ (e : End). e.windows.unreturned) wrote.0,
      owed_fits (end_of c.args.self.now) c.args.id _ sound c.in_ok-stream.ensures.ok.1,
    )

pub returns-clause-ok : goal.returns-clause-ok
returns-clause-ok c =
    let ok = c.in_ok-stream.ensures.ok in
    let e = end_of c.args.self.now in
    let wrote = unless_err c.write_block.result (cc c.is_err.ensures.value) c.write_block.ensures.ok
    in
    let stream = stream_view c.in_ok-stream.stream in
    let changed : end_of c.update_stream.new.self
    ≡ update_stream (end_of c.write_block.new.self) c.args.id
    (record stream { ended_out = c.args.end }) = cc in
    record {
      free = fields_free e c.args.id _ c.args.fields.now c.args.end ok.0 ok.1 ok.2
          ok.3 (omega arith);
      after = changed
          ∙ ap (λ (e : End). update_stream e c.args.id (record stream { ended_out = c.args.end }))
          wrote.0
          ∙ sym (fields_sent e c.args.id stream c.args.fields.now c.args.end ok.1);
    }
