-- By the lemma on an event whose place was made.
use Rattle.h2_joined.proofs.Names.{◌++◌, ◌∷◌, [], refl, ap, ◌∙◌, arith, event_handed}
use Rattle.h2_joined.proofs.KeptStore.{placed_kept, is_pushed}
use Rattle.h2_joined.proofs.store.Store.keep.Goals as goal

pub returns : goal.returns
returns c body room fit stored =
    let place = c.place_of-place.result in
    let same = c.place_of-place.ensures.events in
    placed_kept c.args.self.now c.place_of-place.new.self _ (event_handed c.args.event) place
    (c.place_of-place.ensures.placed body room fit) refl refl
    (is_pushed _ _ _ _ c.push-pushed.ensures.items
    (c.push-pushed.ensures.succeeds (rw same (omega (arith, room.events))))
    ∙ ap (λ v. v.items ++ place ∷ []) same) stored
