-- By the lemma on what a body can have.
use Rattle.h2_joined.proofs.Names.{ℕ, refl, subst, arith, HasRoomForEvent}
use Rattle.h2_joined.proofs.CodeTakes.{held_body}
use Rattle.h2_joined.proofs.joined.Joined.make_room.Goals as goal

pub returns-in-Client : goal.returns-in-Client
returns-in-Client c = rw c.in-Client.is (record {
  room = λ made values end represents up. subst
      (λ (body : ℕ). HasRoomForEvent body c.make_room.new.self)
      (held_body values c.args.self.now.client.end _ end c.args.piece.now c.held.result _
      c.conn.ensures represents up c.held.ensures.value c.held.ensures.bound
      (omega arith) c.saturating_add-body.ensures) (c.make_room.ensures.room made);
  items = c.make_room.ensures.items;
  one_end = refl;
  only = record {
    other_end = refl;
    other_kept = refl;
    accepted = refl;
    incoming = refl;
    unfinished = refl;
  };
})

pub returns-in-Server : goal.returns-in-Server
returns-in-Server c = rw c.in-Server.is (record {
  room = λ made values end represents up. subst
      (λ (body : ℕ). HasRoomForEvent body c.make_room-in-Server.new.self)
      (held_body values c.args.self.now.server.end _ end c.args.piece.now c.held-in-Server.result _
      c.conn-in-Server.ensures represents up c.held-in-Server.ensures.value c.held-in-Server.ensures.bound
      (omega arith) c.saturating_add-body-in-Server.ensures) (c.make_room-in-Server.ensures.room made);
  items = c.make_room-in-Server.ensures.items;
  one_end = refl;
  only = record {
    other_end = refl;
    other_kept = refl;
    accepted = refl;
    incoming = refl;
    unfinished = refl;
  };
})
