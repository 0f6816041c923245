-- What was handed out is kept, where it is a part of the response.
use Rattle.h2_engines.proofs.Names.{rules, ◌++◌, ◌∷◌, [], List, Some, refl, ap, ◌∙◌, map_push}
use Rattle.h2_engines.proofs.Names.{Field, notes_interim, notes_head, notes_body, notes_trailers}
use Rattle.h2_engines.proofs.Names.{notes_nothing, part_on}
use Rattle.std.proofs.Common.{Vec, Global, map as each}
use Rattle.h2_engines.proofs.NoteResponses.{other_stream, other_event}
use Rattle.h2_engines.proofs.fetcher.Coming.note.Goals as goal

pub returns-in_ok-push-in-Interim-clause-notes : goal.returns-in_ok-push-in-Interim-clause-notes
returns-in_ok-push-in-Interim-clause-notes c =
    rw (c.in-Interim.is, c.if-id-stream.true) (notes_interim c.in-Interim.list.now
    (ap (each (λ (one : Vec Field Global). one.items)) c.in_ok-push-in-Interim.ensures.items
    ∙ map_push (λ (one : Vec Field Global). one.items) c.args.self.now.interims.items
    c.in_ok-list-in-Interim.list ∙ ap (λ (list : List Field).
    each (λ (one : Vec Field Global). one.items) c.args.self.now.interims.items ++ list ∷ [])
    c.in_ok-list-in-Interim.ensures) refl refl refl)

pub returns-in_ok-to_vec-in-Head-clause-notes : goal.returns-in_ok-to_vec-in-Head-clause-notes
returns-in_ok-to_vec-in-Head-clause-notes c =
    rw (c.in-Head.is, c.if-id-stream-2.true) (notes_head c.in-Head.list.now c.in-Head.end
    (ap Some c.in_ok-to_vec-in-Head.ensures) refl c.clear.ensures.items refl)

pub returns-in_ok-extend_from_slice-in-Body-clause-notes :
    goal.returns-in_ok-extend_from_slice-in-Body-clause-notes
returns-in_ok-extend_from_slice-in-Body-clause-notes c =
    rw (c.in-Body.is, c.if-id-stream-3.true) (notes_body c.in-Body.bytes.now c.in-Body.end
    c.in_ok-extend_from_slice-in-Body.ensures.items refl refl refl)

pub returns-in_ok-to_vec-in-Trailers-clause-notes :
    goal.returns-in_ok-to_vec-in-Trailers-clause-notes
returns-in_ok-to_vec-in-Trailers-clause-notes c =
    rw (c.in-Trailers.is, c.if-id-stream-4.true) (notes_trailers c.in-Trailers.list.now
    (ap Some c.in_ok-to_vec-in-Trailers.ensures) refl refl refl)

pub returns-in_default-clause-notes : goal.returns-in_default-clause-notes
unfolding part_on
returns-in_default-clause-notes c =
    rw c.in-Interim.is (notes_nothing _ (other_stream c.in-Interim.id c.args.stream _
    c.if-id-stream.false) refl)

pub returns-in_default-2-clause-notes : goal.returns-in_default-2-clause-notes
unfolding part_on
returns-in_default-2-clause-notes c =
    rw c.in-Head.is (notes_nothing _ (other_stream c.in-Head.id c.args.stream _
    c.if-id-stream-2.false) refl)

pub returns-in_default-3-clause-notes : goal.returns-in_default-3-clause-notes
unfolding part_on
returns-in_default-3-clause-notes c =
    rw c.in-Body.is (notes_nothing _ (other_stream c.in-Body.id c.args.stream _
    c.if-id-stream-3.false) refl)

pub returns-in_default-4-clause-notes : goal.returns-in_default-4-clause-notes
unfolding part_on
returns-in_default-4-clause-notes c =
    rw c.in-Trailers.is (notes_nothing _ (other_stream c.in-Trailers.id c.args.stream _
    c.if-id-stream-4.false) refl)

pub returns-in_default-5-clause-notes : goal.returns-in_default-5-clause-notes
returns-in_default-5-clause-notes c =
    other_event c.args.stream c.args.self.now c.args.event (λ stream list is. search rules)
    (λ stream list last is. search rules) (λ stream bytes last is. search rules)
    (λ stream list is. search rules)
