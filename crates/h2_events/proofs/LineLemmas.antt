-- How the lines of events are put together.
use Rattle.std.proofs.Common.{◌≡◌, ℕ, ◌+◌, ◌<◌, List, [], ◌∷◌, ◌++◌, length, take, get_or, flat_map}
use Rattle.std.proofs.Common.{Option, sym, ◌∙◌, ap, subst, append-nil, append_assoc, codes, decimal}
use Rattle.std.proofs.KnownBytes.{Appends-trans}
use Rattle.std.proofs.lemmas.Grind.{flat_map-append}
use Rattle.std.proofs.lemmas.List.{take_more}
use Rattle.std.specs.Io.KnownBytes.{Appends}
use Rattle.h2_spec_log.specs.Events.{GoAwayEvent, UnprocessedEvent}
use Rattle.h2_events.specs.EventLines.{event_lines}

-- a turn of writing what each item gives
pub next_written : {A : Type 0} (f : A → List ℕ) (items : List A) (index : ℕ) (other item : A)
    (start before after : Option (List ℕ)) → index < length items
    → get_or items index other ≡ item → Appends start before (flat_map f (take index items))
    → Appends before after (f item) → Appends start after (flat_map f (take (index + 1) items))
next_written {A = A} f items index other item start before after within is written last =
    subst (λ (text : List ℕ). Appends start after text)
    (sym (ap (flat_map f) (take_more items index other within)
    ∙ flat_map-append f (take index items) (get_or items index other ∷ [])
    ∙ ap (λ (text : List ℕ). flat_map f (take index items) ++ text)
    (append-nil (f (get_or items index other)) ∙ ap f is)))
    (Appends-trans start before after _ _ written last)

-- parts of a line, joined from the last on or from the first on

three_parts : (first second third : List ℕ)
    → first ++ (second ++ third) ≡ first ++ second ++ third
three_parts first second third = simp append_assoc

five_parts : (first second third fourth fifth : List ℕ)
    → first ++ (second ++ (third ++ (fourth ++ fifth)))
    ≡ first ++ second ++ third ++ fourth ++ fifth
five_parts first second third fourth fifth = simp append_assoc

-- the line of GOAWAY, as it is written
pub goaway_line : (before after : Option (List ℕ)) (last code : ℕ)
    → Appends before after (codes "goaway last=" ++ (decimal last ++ (codes " code="
    ++ (decimal code ++ codes "\n"))))
    → Appends before after (event_lines (GoAwayEvent last code))
unfolding event_lines
goaway_line before after last code written =
    subst (λ (text : List ℕ). Appends before after text)
    (five_parts (codes "goaway last=") (decimal last) (codes " code=") (decimal code) (codes "\n"))
    written

-- the line of a stream that wasn't processed, as it is written
pub unprocessed_line : (before after : Option (List ℕ)) (id : ℕ)
    → Appends before after (codes "unprocessed " ++ (decimal id ++ codes "\n"))
    → Appends before after (event_lines (UnprocessedEvent id))
unfolding event_lines
unprocessed_line before after id written =
    subst (λ (text : List ℕ). Appends before after text)
    (three_parts (codes "unprocessed ") (decimal id) (codes "\n")) written
