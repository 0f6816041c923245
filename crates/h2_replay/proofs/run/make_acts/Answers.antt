-- What the new end has written, and then one act after another.
use Rattle.h2_replay.proofs.Names.{refl, ◌∙◌, ap, ◌++◌, ◌∷◌, [], List, sym, subst}
use Rattle.h2_replay.proofs.Names.{ReplayAct, opened, Records, acts_made}
use Rattle.h2_replay.specs.declared.turns.Turn.{Turn}
use Rattle.h2_replay.proofs.RecordLemmas.{opening_records, one_more_act}
use Rattle.h2_replay.specs.declared.turns.Turn.TheVariants as turns
use Rattle.std.proofs.Common.{◌≡◌, arith, length, map-id}
use Rattle.std.proofs.lemmas.Iterator.Adapters.{YieldsList-from_vec}
use Rattle.std.proofs.lemmas.Iterator.Consumers.{YieldsList-end}
use Rattle.h2_replay.specs.declared.acts.Act.{Act}
use Rattle.h2_replay.specs.Replay.{KeepsReplay}
use Rattle.h2_replay.proofs.run.make_acts.Goals as goal

pub loop-act-init : goal.loop-act-init
unfolding acts_made
loop-act-init c role values new =
    let out : Turn = turns.Out c.in_ok-joined_output.field-0 in
    opening_records role values c.args.conn.now out c.in_ok-joined_output.field-0.items
    c.push.new.self.items (◌∙◌ {A = List Turn} c.in_ok-push.ensures.items
    (ap (λ (t : List Turn). t ++ out ∷ []) c.new-turns.ensures.items)) refl new
    (c.in_ok-joined_output.ensures values (opened role values) new)

pub loop-act-preserved : goal.loop-act-preserved
loop-act-preserved c role values new =
    subst (λ (made : List ReplayAct). Records role values made c.make_act.new.conn
    c.make_act.new.turns.items)
    (sym (one_more_act c.loop-act.yielded c.in-Some.act))
    (c.in_ok-make_act.ensures role values (acts_made c.loop-act.yielded)
    (c.loop-act.invariant role values new))

pub returns : goal.returns
returns c role values new =
    let iterator = c.into_iter-act-iterator.result in
    let gives : iterator.rest.items ≡ c.args.acts.items =
    c.into_iter-act-iterator.ensures.into_iter_gives.0 in
    let long : iterator.rest.len ≡ length c.args.acts.items =
    omega (arith, iterator.rest.ok.0, ap length gives) in
    let ended = YieldsList-end (YieldsList-from_vec c.args.acts.items gives long)
    c.loop-act.yielded c.loop-act.act-iterator c.loop-act.yielded_by c.next.result
    c.next.new.self c.in-None.is c.next.ensures.steps in
    let all : c.loop-act.yielded ≡ c.args.acts.items = sym (map-id c.loop-act.yielded) ∙ ended.0 in
    let so_far = c.loop-act.invariant role values new in
    record {
      log = so_far.log;
      turns = so_far.turns;
      keeps = subst (λ (made : List Act). KeepsReplay role values (acts_made made)
          c.loop-act.turns.items so_far.log so_far.turns) all so_far.keeps;
    }
