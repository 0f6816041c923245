-- By the lemmas on what is kept at a place.
use Rattle.h2_joined.proofs.Names.{refl, sym, ◌∙◌, Accepted}
use Rattle.h2_joined.proofs.KeptParts.{none_last, last_then, shows_same, holds_done}
use Rattle.h2_joined.proofs.kept.Kept.make_room.Goals as goal

pub returns-in_default-clause-room : goal.returns-in_default-clause-room
returns-in_default-clause-room c = λ made.
    rw (none_last c.args.id c.args.self.now.accepted.items c.in_default.ensures) tt

pub returns-clause-same : goal.returns-clause-same
returns-clause-same c =
    record {
      incoming = refl;
      accepted = shows_same c.args.self.now.accepted.items c.args.id c.in-Some.place
          c.index_mut.result.now _ c.in-Some.ensures c.index_mut.ensures.value
          (rw c.reserve.ensures.items refl);
      handed = refl;
      unfinished = refl;
    }

pub returns-clause-room : goal.returns-clause-room
returns-clause-room c = λ made.
    let before = c.index_mut.result.now in
    let message = before.message in
    let after : Accepted = record before {
      message = record message { body = c.reserve.new.self };
    } in
    rw (last_then c.args.self.now.accepted.items c.args.id c.in-Some.place before after
    c.in-Some.ensures c.index_mut.ensures.value refl)
    (holds_done _ c.reserve.result (sym c.is_ok.ensures.value ∙ made) c.reserve.ensures.ok)
