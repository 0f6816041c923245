-- By the lemmas on what is kept at a place.
use Rattle.h2_joined.proofs.Names.{refl, sym, arith}
use Rattle.h2_joined.specs.Parts.{shown_with_trailers}
use Rattle.h2_joined.proofs.KeptParts.{none_grows, shows_more, last_within}
use Rattle.h2_joined.proofs.kept.Kept.keep_trailers.Goals as goal

pub returns-in_default : goal.returns-in_default
returns-in_default c =
    record {
      incoming = refl;
      accepted = sym (none_grows c.args.id (shown_with_trailers c.args.trailers.items)
          c.args.self.now.accepted.items c.in_default.ensures);
      handed = refl;
      unfinished = refl;
    }

pub index_mut-one-requires : goal.index_mut-one-requires
index_mut-one-requires c =
    let accepted = c.args.self.now.accepted in
    let within = last_within accepted.items c.args.id c.in-Some.place c.in-Some.ensures in
    omega (arith, within, accepted.ok.0)

pub returns : goal.returns
returns c =
    record {
      incoming = refl;
      accepted = shows_more c.args.self.now.accepted.items c.args.id c.in-Some.place
          c.index_mut-one.result.now _ c.in-Some.ensures c.index_mut-one.ensures.value
          (shown_with_trailers c.args.trailers.items) refl;
      handed = refl;
      unfinished = refl;
    }
