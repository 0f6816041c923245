-- An event, by where it lies.
use Rattle.h2_joined.proofs.Names.{refl, event_kept}
use Rattle.h2_joined.proofs.events.lend.Goals as goal

pub returns-in-Interim : goal.returns-in-Interim
unfolding event_kept
returns-in-Interim c =
    rw (c.in-Interim.is, c.lend_fields.ensures.octets, c.lend_fields.ensures.places) refl

pub returns-in-Head : goal.returns-in-Head
unfolding event_kept
returns-in-Head c =
    rw (c.in-Head.is, c.lend_fields-in-Head.ensures.octets, c.lend_fields-in-Head.ensures.places)
    refl

pub returns-in-Body : goal.returns-in-Body
unfolding event_kept
returns-in-Body c = rw (c.in-Body.is, c.octets_at.ensures, c.deref.ensures.value) refl

pub returns-in-Trailers : goal.returns-in-Trailers
unfolding event_kept
returns-in-Trailers c =
    rw (
      c.in-Trailers.is,
      c.lend_fields-in-Trailers.ensures.octets,
      c.lend_fields-in-Trailers.ensures.places,
    ) refl

pub returns-in-Reset : goal.returns-in-Reset
unfolding event_kept
returns-in-Reset c = rw c.in-Reset.is refl

pub returns-in-Unprocessed : goal.returns-in-Unprocessed
unfolding event_kept
returns-in-Unprocessed c = rw c.in-Unprocessed.is refl

pub returns-in-GoAway : goal.returns-in-GoAway
unfolding event_kept
returns-in-GoAway c = rw c.in-GoAway.is refl

pub returns-in-Acked : goal.returns-in-Acked
unfolding event_kept
returns-in-Acked c = rw c.in-Acked.is refl

pub returns-in-Pong : goal.returns-in-Pong
unfolding event_kept
returns-in-Pong c = rw c.in-Pong.is refl
