-- By the lemmas on what is kept at a place.
use Rattle.h2_joined.proofs.Names.{◌≤◌, ◌+◌, length, refl, sym, arith}
use Rattle.std.specs.Prelude.{vec_len}
use Rattle.std.specs.Vec.{vec_capacity}
use Rattle.h2_joined.specs.Parts.{shown_with_octets}
use Rattle.h2_joined.proofs.KeptParts.{none_grows, last_is, shows_more, octets_kept, last_within}
use Rattle.h2_joined.proofs.kept.Kept.keep_octets.Goals as goal

pub returns-in_default : goal.returns-in_default
returns-in_default c = λ room.
    record {
      incoming = refl;
      accepted = sym (none_grows c.args.id (shown_with_octets c.args.octets.now c.args.ended)
          c.args.self.now.accepted.items c.in_default.ensures);
      handed = refl;
      unfinished = refl;
    }

pub index_mut-one-requires : goal.index_mut-one-requires
index_mut-one-requires c =
    let accepted = c.args.self.now.accepted in
    let within = last_within accepted.items c.args.id c.in-Some.place c.in-Some.ensures in
    omega (arith, within, accepted.ok.0)

pub returns-then-ended : goal.returns-then-ended
returns-then-ended c = λ room.
    let items = c.args.self.now.accepted.items in
    let got = c.index_mut-one.result.now in
    let last = c.in-Some.ensures in
    let is = c.index_mut-one.ensures.value in
    let fits : vec_len got.message.body + length c.args.octets.now
    ≤ vec_capacity got.message.body =
    rw (last_is items c.args.id c.in-Some.place got got last is) at room in
    let more = octets_kept c.extend_from_slice-kept.result got.message.body.items
    c.extend_from_slice-kept.new.self.items c.args.octets.now
    (c.extend_from_slice-kept.ensures.succeeds fits) c.extend_from_slice-kept.ensures.items in
    record {
      incoming = refl;
      accepted = shows_more items c.args.id c.in-Some.place got _ last is
          (shown_with_octets c.args.octets.now c.args.ended) (rw (more, c.if-ended.true) refl);
      handed = refl;
      unfinished = refl;
    }

pub returns-else-ended : goal.returns-else-ended
returns-else-ended c = λ room.
    let items = c.args.self.now.accepted.items in
    let got = c.index_mut-one.result.now in
    let last = c.in-Some.ensures in
    let is = c.index_mut-one.ensures.value in
    let fits : vec_len got.message.body + length c.args.octets.now
    ≤ vec_capacity got.message.body =
    rw (last_is items c.args.id c.in-Some.place got got last is) at room in
    let more = octets_kept c.extend_from_slice-kept.result got.message.body.items
    c.extend_from_slice-kept.new.self.items c.args.octets.now
    (c.extend_from_slice-kept.ensures.succeeds fits) c.extend_from_slice-kept.ensures.items in
    record {
      incoming = refl;
      accepted = shows_more items c.args.id c.in-Some.place got _ last is
          (shown_with_octets c.args.octets.now c.args.ended) (rw (more, c.if-ended.false) refl);
      handed = refl;
      unfinished = refl;
    }
