use Rattle.std.proofs.Common.{List, Some, refl, sym, ap}
use Rattle.hpack.specs.declared.types.field.Field.{Field}
use Rattle.h2_server.proofs.buffered.BufferedHandler.trailers.Goals as goal

pub returns : goal.returns
returns g c = rw (sym c.in-Some.ensures.value) (record {
  gathered = _;
  kept = refl;
  is = record {
    head_is = refl;
    body_is = refl;
    trailers_are = ap (λ (list : List Field). Some list)
        (rw c.in_ok-trailers.was at c.to_vec.ensures);
  };
  so = (c.in_ok-reply.ensures.answers, c.in_ok-reply.ensures.most);
})
