-- By the lemmas on what an event has.
use Rattle.h2_joined.proofs.Names.{refl, ap, Field, InterimHanded, HeadHanded, TrailersHanded}
use Rattle.h2_joined.proofs.Names.{event_kept, Fits, IsEventPlace, List}
use Rattle.h2_joined.proofs.KeptStore.{list_event, body_event, bare_event}
use Rattle.h2_ends.specs.declared.event.EndEvent.TheVariants as places
use Rattle.h2_joined.proofs.store.Store.place_of.Goals as goal

pub returns-in-Interim : goal.returns-in-Interim
unfolding event_kept Fits IsEventPlace
returns-in-Interim c =
    let handed = λ (l : List Field). InterimHanded c.in-Interim.id l in
    rw c.in-Interim.is (list_event c.args.self.now c.keep_list.new.self c.in-Interim.list.now
    c.keep_list.result
    (handed c.in-Interim.list.now) (places.Interim c.in-Interim.id c.keep_list.result)
    c.keep_list.ensures (λ body fit. fit) (λ same. ap handed same) (λ within. within))

pub returns-in-Head : goal.returns-in-Head
unfolding event_kept Fits IsEventPlace
returns-in-Head c =
    let handed = λ (l : List Field). HeadHanded c.in-Head.id l c.in-Head.end in
    rw c.in-Head.is (list_event c.args.self.now c.keep_list-in-Head.new.self
    c.in-Head.list.now c.keep_list-in-Head.result
    (handed c.in-Head.list.now) (places.Head c.in-Head.id c.keep_list-in-Head.result c.in-Head.end)
    c.keep_list-in-Head.ensures (λ body fit. fit) (λ same. ap handed same) (λ within. within))

pub returns-in-Trailers : goal.returns-in-Trailers
unfolding event_kept Fits IsEventPlace
returns-in-Trailers c =
    let handed = λ (l : List Field). TrailersHanded c.in-Trailers.id l in
    rw c.in-Trailers.is (list_event c.args.self.now c.keep_list-in-Trailers.new.self
    c.in-Trailers.list.now c.keep_list-in-Trailers.result
    (handed c.in-Trailers.list.now)
    (places.Trailers c.in-Trailers.id c.keep_list-in-Trailers.result)
    c.keep_list-in-Trailers.ensures (λ body fit. fit) (λ same. ap handed same) (λ within. within))

pub returns-in-Body : goal.returns-in-Body
returns-in-Body c =
    rw c.in-Body.is (body_event c.args.self.now c.keep_octets.new.self c.in-Body.bytes.now
    c.keep_octets.result c.in-Body.id c.in-Body.end c.keep_octets.ensures)

pub returns-in-Reset : goal.returns-in-Reset
unfolding event_kept IsEventPlace
returns-in-Reset c = rw c.in-Reset.is (bare_event c.args.self.now _ _ refl tt)

pub returns-in-Unprocessed : goal.returns-in-Unprocessed
unfolding event_kept IsEventPlace
returns-in-Unprocessed c = rw c.in-Unprocessed.is (bare_event c.args.self.now _ _ refl tt)

pub returns-in-GoAway : goal.returns-in-GoAway
unfolding event_kept IsEventPlace
returns-in-GoAway c = rw c.in-GoAway.is (bare_event c.args.self.now _ _ refl tt)

pub returns-in-Acked : goal.returns-in-Acked
unfolding event_kept IsEventPlace
returns-in-Acked c = rw c.in-Acked.is (bare_event c.args.self.now _ _ refl tt)

pub returns-in-Pong : goal.returns-in-Pong
unfolding event_kept IsEventPlace
returns-in-Pong c = rw c.in-Pong.is (bare_event c.args.self.now _ _ refl tt)
