use Rattle.std.proofs.Common.{refl, sym, inl, inr, arith}
use Rattle.h2_server.proofs.StatusAlone.{status_value}
use Rattle.h2_server.proofs.buffered.BufferedHandler.body.Goals as goal

pub returns : goal.returns
returns g c = rw (sym c.in-Some.ensures.value) (inr (
  omega arith,
  record {
    gathered = _;
    kept = refl;
    is = record {
      head_is = refl;
      body_is = c.in_ok-extend_from_slice.ensures.items;
      trailers_are = refl;
    };
    so = c.in_ok-reply.ensures;
  },
))

pub returns-then-octets-saturating_sub : goal.returns-then-octets-saturating_sub
returns-then-octets-saturating_sub g c = rw (sym c.in-Some.ensures.value) (inl (
  omega arith,
  (
    c.in_ok-response.field-0,
    refl,
    status_value c.in_ok-response.field-0 413 c.in_ok-response.ensures,
  ),
  c.in-Some.ensures.after,
  refl,
))
