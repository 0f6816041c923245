-- Where no condition refuses, a stream is added to the table, and taken away again where the block
-- cannot be written.
use Rattle.h2_core.proofs.Names.{◌≡◌, false, ap, sym, ◌∙◌, arith, rules, StreamState, stream_view}
use Rattle.h2_core.proofs.Names.{TableState, End, end_view, active_entry, new_stream, end_of}
use Rattle.h2_core.proofs.Names.{IsSoundEnd, get_set_same}
use Rattle.h2_core.proofs.CallConditions.{lacks_memory, if_err}
use Rattle.hpack.proofs.ResultLemmas.{on_ok as unless_err}
use Rattle.h2_core.proofs.CallOpen.{MayOpen, may_open, number_above, with_stream, without}
use Rattle.h2_core.proofs.StepEnds.{with_table}
use Rattle.h2_core.proofs.CallOpen.{table_of, taken_away, with_count, opened}
use Rattle.h2_core.proofs.SoundFacts.{absent_above}
use Rattle.h2_core.proofs.Names.{None, refusal_of}
use Rattle.h2_spec_log.specs.Acts.{Open}
use Rattle.h2_core.proofs.endpoint.Endpoint.open.Goals.{In_default}
use Rattle.h2_core.proofs.endpoint.Endpoint.open.Goals as goal

-- Where no condition refuses, the end is up and sound.
free : (c : In_default)
    → refusal_of (end_view (end_of c.args.self.now)) (Open c.args.fields.now c.args.end) ≡ None
free c =
    sym (c.refusal_of_open.ensures c.args.fields.now c.args.end c.list_size-size.ensures.size)
    ∙ c.in_default.is

may : (c : In_default) → MayOpen (end_of c.args.self.now) c.args.fields.now
may c = may_open (end_of c.args.self.now) c.args.fields.now c.args.end (free c)

sound : (c : In_default) → IsSoundEnd (end_of c.args.self.now)
sound c = c.requires.sound (may c).up

pub next_number-id-requires : goal.next_number-id-requires
next_number-id-requires c =
    let sound = sound (goal.at.next_number-id-requires c).In_default in search rules

pub open-requires-clause-absent : goal.open-requires-clause-absent
open-requires-clause-absent c =
    let sound = sound (goal.at.open-requires-clause-absent c).In_default in
    absent_above (end_of c.args.self.now) c.next_number-id.result sound (omega (
      arith,
      c.next_number-id.ensures,
      (number_above c.args.self.now.highest).1,
    ))

pub open-requires-clause-recv : goal.open-requires-clause-recv
open-requires-clause-recv c =
    let sound = sound (goal.at.open-requires-clause-recv c).In_default in search rules

pub overflow_add-self : goal.overflow_add-self
overflow_add-self c =
    let sound = sound (goal.at.overflow_add-self c).In_default in search rules

pub write_block-requires-clause-up : goal.write_block-requires-clause-up
write_block-requires-clause-up c = (may (goal.at.write_block-requires-clause-up c).In_default).up

pub write_block-requires-clause-number : goal.write_block-requires-clause-number
write_block-requires-clause-number c =
    let above = number_above c.args.self.now.highest in
    let may = may (goal.at.write_block-requires-clause-number c).In_default in (
      omega (arith, c.next_number-id.ensures, above.0),
      omega (arith, c.next_number-id.ensures, may.number),
    )

pub write_block-requires-clause-size : goal.write_block-requires-clause-size
write_block-requires-clause-size c =
    let may = may (goal.at.write_block-requires-clause-size c).In_default in
    omega (arith, c.list_size-size.ensures.size, may.small)

pub write_block-requires-clause-small : goal.write_block-requires-clause-small
write_block-requires-clause-small c =
    let may = may (goal.at.write_block-requires-clause-small c).In_default in
    omega (arith, c.list_size-size.ensures.size, may.small)

pub close-requires : goal.close-requires
close-requires c =
    let added = unless_err c.open.result (cc c.is_err.ensures.value) c.open.ensures.ok in
    let same = if_err c.write_block.result (cc c.is_err-2.ensures.value)
    c.write_block.ensures.err in
    let entries = ap (λ (e : End). e.streams.entries) same
    ∙ ap (λ (table : TableState). table.entries) added in
    rw (
      entries,
      get_set_same c.args.self.now.streams.entries c.next_number-id.result
          (active_entry (stream_view c.new_stream-stream.result)),
    )

pub returns-then-is_err-2-clause-err : goal.returns-then-is_err-2-clause-err
returns-then-is_err-2-clause-err c =
    let e = end_of c.args.self.now in
    let id = c.next_number-id.result in
    let at = (goal.at.returns-then-is_err-2-clause-err c).In_default in
    let added = unless_err c.open.result (cc c.is_err.ensures.value) c.open.ensures.ok in
    let same = if_err c.write_block.result (cc c.is_err-2.ensures.value)
    c.write_block.ensures.err in
    let none = absent_above e id (sound at) (omega (
      arith,
      c.next_number-id.ensures,
      (number_above c.args.self.now.highest).1,
    )) in
    let closed : c.close.new.self ≡ c.args.self.now.streams =
    c.close.ensures
    ∙ ap (λ (one : End). without (table_of one) id) same
    ∙ taken_away c.args.self.now.streams c.open.new.self id
    (stream_view c.new_stream-stream.result) none added in
    lacks_memory e _ _ (free at)
    (ap (λ (one : End). with_table one c.close.new.self) same
    ∙ ap (with_table e) closed)

pub returns-clause-ok : goal.returns-clause-ok
returns-clause-ok c =
    let e = end_of c.args.self.now in
    let id = c.next_number-id.result in
    let at = (goal.at.returns-clause-ok c).In_default in
    let number : id ≡ (end_view e).next_number = rw (may at).client c.next_number-id.ensures in
    let added = unless_err c.open.result (cc c.is_err.ensures.value) c.open.ensures.ok in
    let wrote = unless_err c.write_block.result (cc c.is_err-2.ensures.value)
    c.write_block.ensures.ok in
    let stream : stream_view c.new_stream-stream.result ≡ new_stream e false c.args.end =
    c.new_stream-stream.ensures
    ∙ ap (λ (state : StreamState). new_stream e state.ended_in c.args.end) c.open-state.ensures in
    let table = added ∙ ap (with_stream c.args.self.now.streams id) stream in (
      number,
      record {
        free = free at;
        after = ap (λ (one : End). with_count one id) wrote.0
            ∙ opened e c.open.new.self c.args.fields.now c.args.end id table number;
      },
    )
