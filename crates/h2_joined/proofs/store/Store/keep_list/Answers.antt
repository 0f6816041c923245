-- By the lemmas on the fields of a list, one after another.
use Rattle.h2_joined.proofs.Names.{◌+◌, ◌∷◌, ◌++◌, [], take, drop, ap, ◌∙◌, arith, slice_get, Field}
use Rattle.h2_joined.proofs.Names.{◌≡◌, Some}
use Rattle.std.proofs.lemmas.List.{take_more, drop_more}
use Rattle.std.proofs.lemmas.Option.{slice_get_within, get_or_from_slice_get}
use Rattle.h2_joined.proofs.KeptStore.{list_begins, list_goes_on, list_ends}
use Rattle.h2_joined.proofs.store.Store.keep_list.Goals as goal

pub loop-place-init : goal.loop-place-init
loop-place-init c = list_begins c.args.self.now c.args.list.now

pub loop-place-preserved : goal.loop-place-preserved
loop-place-preserved c =
    let list = c.args.list.now in
    let place = c.loop-place.place in
    let next : Field = record {
      name = c.in-Some.field.name.now;
      value = c.in-Some.field.value.now;
      sensitive = c.in-Some.field.sensitive;
    } in
    let there : slice_get list place ≡ Some next = c.in-Some.ensures in
    let within = slice_get_within list place next there in
    let same = get_or_from_slice_get list place next next there in
    list_goes_on c.args.self.now c.loop-place.self c.keep_field.new.self list place next
    (drop_more list place next within
    ∙ ap (λ (f : Field). f ∷ drop (place + 1) list) same)
    (take_more list place next within ∙ ap (λ (f : Field). take place list ++ f ∷ []) same)
    c.loop-place.invariant c.keep_field.ensures

pub returns : goal.returns
returns c =
    list_ends c.args.self.now c.loop-place.self c.args.list.now c.loop-place.place _
    (omega (arith, c.loop-place-test.false, c.len-place-end.ensures))
    (omega (arith, c.len-start.ensures, c.args.self.now.fields.ok.0))
    (omega (arith, c.len.ensures, c.loop-place.self.fields.ok.0)) c.loop-place.invariant
