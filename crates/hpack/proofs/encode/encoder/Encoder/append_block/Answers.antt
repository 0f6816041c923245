use Rattle.hpack.proofs.Names.{◌∙◌, ◌++◌, ◌^◌, ◌<◌, sym, ap, refl, subst, arith, Block}
use Rattle.hpack.proofs.Names.{IsValidEncoder, EncoderState, block_of, after_block}
use Rattle.hpack.proofs.ResultLemmas.{on_ok}
use Rattle.hpack.proofs.WrittenBlocks.{block_encodes}
use Rattle.hpack.proofs.StateLemmas.{writing_of}
use Rattle.hpack.specs.ChoiceModel.{maxima_of}
use Rattle.hpack.proofs.WritingLemmas.{IsBegun, block_is_written, block_is_done}
use Rattle.hpack.proofs.encode.encoder.Encoder.append_block.Goals as goal
use Rattle.hpack.proofs.encode.encoder.Encoder.append_block.Goals.{After-apply_to_pending}

-- The pending table is made, and the updates are applied to it.
begun_by : (c : After-apply_to_pending)
    → IsBegun (record {
      table = c.self.inside.table;
      least = c.self.inside.least;
      limit = c.self.inside.limit;
    }) (maxima_of c.due-updates.result) c.begin.new.self c.apply_to_pending.new.pending
begun_by c = record {
  due = c.due-updates.ensures.due _ (sym c.maximum.ensures) refl refl;
  same = c.begin.ensures.same;
  updates = c.apply_to_pending.ensures.resized;
}

pub returns-clause-written : goal.returns-clause-written
returns-clause-written c =
    block_is_written _ _ _ _ c.args.fields.now c.args.out.now.items c.append.new.out.items _
    (begun_by (goal.at.returns-clause-written c).After-apply_to_pending) c.in_ok-append.ensures.ok
    (on_ok _ (sym c.is_err.ensures.value ∙ c.if-is_err.false) c.append_fields.ensures.written)
    ∙ ap (λ (s : EncoderState). c.args.out.now.items ++ block_of s c.args.fields.now) c.self.view_is

pub returns-clause-after : goal.returns-clause-after
returns-clause-after c =
    let done = sym c.is_err.ensures.value ∙ c.if-is_err.false in
    block_is_done _ _ _ _ c.append_fields.new.pending c.args.fields.now _ _
    (begun_by (goal.at.returns-clause-after c).After-apply_to_pending) c.begin.ensures.none_added
    c.apply_to_pending.ensures.added (on_ok _ done c.append_fields.ensures.added)
    (on_ok _ done c.append_fields.ensures.after)
    (on_ok _ (sym c.is_err-else-is_err.ensures.value ∙ c.if-is_err-2.false) c.apply.ensures.ok)
    c.commit.ensures.table
    ∙ ap (λ (s : EncoderState). after_block s c.args.fields.now) c.self.view_is

pub returns-clause-block : goal.returns-clause-block
returns-clause-block c = λ limit le.
    let state : EncoderState = record {
      table = c.self.inside.table;
      least = c.self.inside.least;
      limit = c.self.inside.limit;
    } in
    let small : state.limit < 2 ^ 32 = omega (arith, c.self.ranges) in
    let writing : IsValidEncoder c.args.self.now = subst IsValidEncoder c.self.view_is
    (writing_of state c.begin.new.self c.begin.ensures.pending
    c.begin.ensures.same c.self.invariant.least small) in
    subst (λ (new : EncoderState). Block c.args.self.now.table limit
    (block_of c.args.self.now c.args.fields.now) c.args.fields.now new.table)
    (sym (returns-clause-after c)) (block_encodes _ limit _ writing
    (on_ok _ (sym c.is_err.ensures.value ∙ c.if-is_err.false) c.append_fields.ensures.octets)
    c.requires le)
