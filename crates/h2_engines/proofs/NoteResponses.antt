-- What is noted of a response, part by part.
use Rattle.h2_engines.proofs.Names.{◌≡◌, ℕ, Bool, false, List, [], ◌∷◌, Bor, refl, ap, ne_eqb}
use Rattle.h2_engines.proofs.Names.{Field, Part, LentPart, event_handed, Coming, NotesPart}
use Rattle.h2_engines.proofs.Names.{notes_nothing, part_on, if◌then◌else◌, ◌==◌}
use Rattle.std.specs.Prelude.{◌≢◌}
use Rattle.h2_ends.specs.declared.event.EndEvent.TheVariants as events

-- A part of another stream is none of the response.
pub other_stream : (stream id : ℕ) (part : Part × Bool) → stream ≢ id
    → (if stream == id then part ∷ [] else []) ≡ []
other_stream stream id part other =
    ap (λ (b : Bool). if b then part ∷ [] else []) (ne_eqb stream id other)

-- What is no part of a message is none of the response.
pub other_event : (id : ℕ) (old : Coming) (event : LentPart)
    → ((stream : ℕ) (list : Bor (List Field)) → event ≡ events.Interim stream list → ⊥)
    → ((stream : ℕ) (list : Bor (List Field)) (last : Bool) → event ≡ events.Head stream list last
    → ⊥)
    → ((stream : ℕ) (bytes : Bor (List ℕ)) (last : Bool) → event ≡ events.Body stream bytes last
    → ⊥)
    → ((stream : ℕ) (list : Bor (List Field)) → event ≡ events.Trailers stream list → ⊥)
    → NotesPart id old old (event_handed event) false
unfolding part_on
other_event id old (events.Interim stream list) interim head body trailers =
    absurd (interim stream list refl)
other_event id old (events.Head stream list last) interim head body trailers =
    absurd (head stream list last refl)
other_event id old (events.Body stream bytes last) interim head body trailers =
    absurd (body stream bytes last refl)
other_event id old (events.Trailers stream list) interim head body trailers =
    absurd (trailers stream list refl)
other_event id old event interim head body trailers =
    notes_nothing (event_handed event) refl refl
