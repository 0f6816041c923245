-- By the lemma on a name and a value that are kept.
use Rattle.h2_joined.proofs.Names.{refl}
use Rattle.h2_joined.proofs.KeptStore.{field_kept, is_pushed}
use Rattle.h2_joined.proofs.store.Store.keep_field.Goals as goal

pub returns : goal.returns
returns c =
    field_kept c.args.self.now c.keep_octets-name.new.self c.keep_octets-value.new.self _
    c.keep_octets-name.result c.keep_octets-value.result c.args.field.name.now
    c.args.field.value.now c.args.field.sensitive c.keep_octets-name.ensures
    c.keep_octets-value.ensures refl refl c.push-pushed.ensures.capacity
    (λ room. is_pushed _ _ _ _ c.push-pushed.ensures.items (c.push-pushed.ensures.succeeds room))
