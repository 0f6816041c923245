use Rattle.std.proofs.Common.{refl}
use Rattle.h2_server.proofs.buffered.BufferedHandler.head.Goals as goal

pub returns : goal.returns
returns g c = record {
  gathered = _;
  kept = refl;
  is = record {
    head_is = rw c.in_ok-to_vec.was at c.to_vec.ensures;
    body_is = c.new.ensures.items;
    trailers_are = refl;
  };
  so = c.in_ok-reply.ensures;
}
