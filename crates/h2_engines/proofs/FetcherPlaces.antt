-- Which part of a response may come next, after what has come.
use Rattle.h2_engines.proofs.Names
use Names.{◌≡◌, ℕ, Bool, true, false, List, [], ◌∷◌, ◌++◌, Option, Some, None, option_map, refl, ap}
use Names.{◌∙◌, sym, subst, AllByRecursion, Field, Malformed, Phase, Place, first_broken}
use Names.{interim_rules, Part, FieldsPart, OctetsPart, BreakNone, IsReadable, place_after, Coming}
use Names.{HasCome, interims_alone, head_and_body, interim_parts, data_parts_of, phase_after_head}
use Names.{phase_after, phase_after_all, place_at_head, place_in, ◌≢◌, if◌then◌else◌, after_both}
use Rattle.h2_message.specs.declared.reading.Phase.TheVariants.{AtHead}
use Rattle.h2_message.specs.declared.reading.Reads.TheVariants.{Responses}
use Rattle.std.specs.Prelude.{is_some}
use Rattle.h2_message.proofs.PhaseWhole.{after_interim}
use Rattle.h2_engines.proofs.NextParts.{is_begun, final_begun, stays_begun, one_more, place_later}
use Rattle.h2_message.proofs.ReadingRules.{some_not_none}
use Rattle.h2_message.specs.declared.reading.Place.TheVariants as places

-- After interim responses a head comes next.
after_interims : (to_head : Bool) (interims : List (List Field))
    → AllByRecursion (λ fields. BreakNone (interim_rules fields)) interims
    → phase_after_all (Responses to_head) (Some AtHead) (interim_parts interims) ≡ Some AtHead
unfolding phase_after_all phase_after
after_interims to_head [] sound = refl
after_interims to_head (fields ∷ interims) sound =
    ap (λ (phase : Option Phase). phase_after_all (Responses to_head) phase
    (interim_parts interims)) (after_interim _ _ sound.0) ∙ after_interims to_head interims sound.1

-- After one that is no interim one none does.
head_begun : (to_head : Bool) (head : List Field) → first_broken (interim_rules head) ≢ None
    → is_begun (phase_after_head (Responses to_head) head false) ≡ true
unfolding phase_after_head
head_begun to_head head final = rw (some_not_none _ final) (final_begun _ _ false)

after_head : (to_head : Bool) (interims : List (List Field)) (head : List Field)
    (data_parts : List (List ℕ))
    → AllByRecursion (λ fields. BreakNone (interim_rules fields)) interims
    → first_broken (interim_rules head) ≢ None
    → is_begun (phase_after_all (Responses to_head) (Some AtHead)
    (interim_parts interims ++ (FieldsPart head, false) ∷ data_parts_of data_parts)) ≡ true
unfolding phase_after_all phase_after
after_head to_head interims head data_parts sound final =
    let reads = Responses to_head in
    let parts = (FieldsPart head, false) ∷ data_parts_of data_parts in
    ap is_begun (after_both reads (Some AtHead) (interim_parts interims) parts
    ∙ ap (λ (phase : Option Phase). phase_after_all reads phase parts)
    (after_interims to_head interims sound)) ∙ stays_begun _ _ _ (head_begun to_head head final)

-- What the place of a field block says of it, and of the head.
abbrev pub SaysPlace : Coming → List Field → Place → Type 0
SaysPlace coming list places.Interim =
    (coming.head ≡ None) × BreakNone (interim_rules list)
SaysPlace coming list places.Head =
    (coming.head ≡ None) × (first_broken (interim_rules list) ≢ None)
SaysPlace coming list places.Trailers = coming.head ≢ None

at_head_says : (to_head : Bool) (coming : Coming) (list : List Field) → coming.head ≡ None
    → SaysPlace coming list (place_at_head (Responses to_head) list)
unfolding place_at_head
at_head_says to_head coming list none =
    elim (first_broken (interim_rules list)) as (λ (broken : Option Malformed).
    first_broken (interim_rules list) ≡ broken
    → SaysPlace coming list (if is_some broken then places.Head else places.Interim)) [
      | None ↦ λ is. (none, is)
      | Some rule ↦ λ is. (none, λ wrong. absurd (cc))
    ] refl

-- A head that came is there.
pub head_there : {A B : Type 0} (value : A → B) (option : Option A) (head : B)
    → option_map value option ≡ Some head → option ≢ None
head_there value None head came none = absurd (cc)
head_there value (Some one) head came none = absurd (cc)

pub place_says : {to_head : Bool} {coming : Coming} {parts : List (Part × Bool)}
    (list : List Field) (last : Bool) → HasCome coming parts
    → IsReadable (Responses to_head) (parts ++ (FieldsPart list, last) ∷ [])
    → SaysPlace coming list (place_after (Responses to_head) parts list)
unfolding place_in
place_says {to_head} {coming} list last (interims_alone heads none empty end) readable =
    rw ((after_interims to_head _ heads.interims)) (at_head_says to_head coming list none)
place_says {to_head} {coming} {parts} list last (head_and_body heads head data_parts came body end)
    readable =
    subst (SaysPlace coming list) (sym (place_later parts list last (after_head to_head _ head
    data_parts heads.interims (heads.head head came)) readable))
    (head_there (λ one. one.items) coming.head head came)

-- Octets come after the head alone.
pub octets_say : {to_head : Bool} {coming : Coming} {parts : List (Part × Bool)} (octets : List ℕ)
    (last : Bool) → HasCome coming parts
    → IsReadable (Responses to_head) (parts ++ (OctetsPart octets, last) ∷ []) → coming.head ≢ None
unfolding phase_after_all phase_after
octets_say {to_head} {parts} octets last (interims_alone heads none empty end) readable =
    absurd (one_more _ _ (after_interims to_head _ heads.interims) readable refl)
octets_say {coming} octets last (head_and_body heads head data_parts came body end) readable =
    head_there (λ one. one.items) coming.head head came
