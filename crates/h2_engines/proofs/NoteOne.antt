-- What is nothing of a request is noted as nothing.
use Rattle.h2_engines.proofs.Names.{◌≡◌, ℕ, Bool, List, Bor, refl, Field, LentPart, event_handed}
use Rattle.h2_engines.proofs.Names.{NotesHanded, Requests}
use Rattle.h2_ends.specs.declared.event.EndEvent.TheVariants as events
use Rattle.h2_engines.specs.declared.request.Next.TheVariants as nexts

pub notes_other : (old : Requests) (event : LentPart)
    → ((id : ℕ) (list : Bor (List Field)) (last : Bool) → event ≡ events.Head id list last → ⊥)
    → ((id : ℕ) (bytes : Bor (List ℕ)) (last : Bool) → event ≡ events.Body id bytes last → ⊥)
    → ((id : ℕ) (list : Bor (List Field)) → event ≡ events.Trailers id list → ⊥)
    → ((id code : ℕ) (ours : Bool) → event ≡ events.Reset id code ours → ⊥)
    → NotesHanded old old (event_handed event) nexts.Again
unfolding NotesHanded
notes_other old (events.Head id list last) head body trailers reset =
    absurd (head id list last refl)
notes_other old (events.Body id bytes last) head body trailers reset =
    absurd (body id bytes last refl)
notes_other old (events.Trailers id list) head body trailers reset =
    absurd (trailers id list refl)
notes_other old (events.Reset id code ours) head body trailers reset =
    absurd (reset id code ours refl)
notes_other old event head body trailers reset = (refl, refl)
