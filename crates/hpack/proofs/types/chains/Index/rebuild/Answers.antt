use Rattle.hpack.proofs.Names.{◌≡◌, ◌∙◌, ◌-◌, List, ◌∷◌, drop, refl, sym, subst, arith, length-drop}
use Rattle.hpack.proofs.Names.{Entry, IsIndexOf}
use Rattle.hpack.proofs.IndexLemmas.{index_empty, drop_back, drop_end, drop_all}
use Rattle.hpack.proofs.types.chains.Index.rebuild.Goals as goal

pub loop-name-init : goal.loop-name-init
loop-name-init c =
    let entries = c.args.table.now.entries in
    record {
      index = index_empty c.args.self.now (drop c.len-place.result entries)
          (drop_end entries c.len-place.result (omega (arith, c.len-place.ensures.value)));
      capacity = refl;
      within = omega (arith, c.len-place.ensures.value);
    }

pub loop-name-preserved : goal.loop-name-preserved
loop-name-preserved c =
    let entries = c.args.table.now.entries in
    let place = c.loop-name.place in
    let one : Entry = record { name = c.in-Some.name.now; value = c.in-Some.value.now } in
    let next : drop (place - 1) entries ≡ one ∷ drop place entries =
    drop_back entries place one c.in-Some.ensures.0 c.loop-name.invariant.within
    c.in-Some.ensures.1 in
    record {
      index = subst (λ (es : List Entry). IsIndexOf c.push.new.self es) (sym next)
          (c.push.ensures.entries (drop place entries) one c.loop-name.invariant.index
          c.hashes_of.ensures (omega (
            arith,
            c.requires,
            c.len-place.ensures.value,
            c.len-place.ensures.bound,
            c.loop-name.invariant.capacity,
            length-drop place entries,
          )));
      capacity = c.push.ensures.capacity ∙ c.loop-name.invariant.capacity;
      within = omega (arith, c.loop-name.invariant.within);
    }

pub returns-clause-entries : goal.returns-clause-entries
returns-clause-entries c =
    drop_all c.loop-name.self c.args.table.now.entries c.loop-name.place c.in_default.ensures
    c.loop-name.invariant.within c.loop-name.invariant.index
