-- What a scan says of the status of a response.
use Rattle.h2_message.proofs.Names.{◌≡◌, ℕ, not, ◌||◌, Bool, true, false, if◌then◌else◌, List}
use Rattle.h2_message.proofs.Names.{codes, Option, Some, None, refl, ap, ◌∙◌, inl, inr, option_map}
use Rattle.h2_message.proofs.Names.{option_eq, unwrap_or, bytes_eq, true≢false, bytes_eq-Decides}
use Rattle.h2_message.proofs.Names.{sameb, status_class, is_bad_status, is_status_code}
use Rattle.h2_message.proofs.Names.{is_interim_status, or_nothing}
use Rattle.std.proofs.lemmas.Bool.{or_cases}
use Rattle.h2_message.specs.declared.classes.Status.{Status}
use Rattle.h2_message.specs.declared.classes.Status.TheVariants as statuses
use Rattle.h2_message.specs.contracts.classes.Status.{the_type}
use Rattle.h2_message.specs.contracts.classes.StatusPartialEq.TheImpl.{eq-value}

-- the status of three tests
abbrev by-tests : (bad interim none : Bool) → Status
by-tests bad interim none =
    if bad then statuses.Bad else if interim then statuses.Interim
    else if none then statuses.NoContent else statuses.Final

final-by : (bad interim none : Bool)
    → (sameb the_type (by-tests bad interim none) statuses.Bad
    || sameb the_type (by-tests bad interim none) statuses.Interim)
    ≡ (bad || interim)
final-by true interim none = refl
final-by false true none = refl
final-by false false true = refl
final-by false false false = refl

interim-by : (bad interim none : Bool)
    → eq-value.it (by-tests bad interim none) statuses.Interim ≡ not (bad || not interim)
interim-by true interim none = refl
interim-by false true none = refl
interim-by false false true = refl
interim-by false false false = refl

none-by : (bad interim none : Bool) → (none ≡ true → bad ≡ false)
    → (none ≡ true → interim ≡ false)
    → eq-value.it (by-tests bad interim none) statuses.NoContent ≡ none
none-by true interim true good other = absurd (true≢false (good refl))
none-by true interim false good other = refl
none-by false true true good other = absurd (true≢false (other refl))
none-by false true false good other = refl
none-by false false true good other = refl
none-by false false false good other = refl

-- A scan's status is none or an interim one where the value of `:status` is.
pub no-final-status : (value : Option (List ℕ)) (status : Option Status) (was : Status)
    → status ≡ option_map status_class value → was ≡ unwrap_or status statuses.Bad
    → (sameb the_type was statuses.Bad || sameb the_type was statuses.Interim)
    ≡ (is_bad_status (or_nothing value) || is_interim_status (or_nothing value))
unfolding status_class is_bad_status is_status_code or_nothing
no-final-status None status was is kept =
    ap (λ (s : Status). sameb the_type s statuses.Bad || sameb the_type s statuses.Interim)
    (kept ∙ ap (λ (s : Option Status). unwrap_or s statuses.Bad) is)
no-final-status (Some value) status was is kept =
    ap (λ (s : Status). sameb the_type s statuses.Bad || sameb the_type s statuses.Interim)
    (kept ∙ ap (λ (s : Option Status). unwrap_or s statuses.Bad) is)
    ∙ final-by (is_bad_status value) (is_interim_status value)
    (bytes_eq value (codes "204") || bytes_eq value (codes "304"))

-- A scan's status is an interim one where the value of `:status` is one.
pub interim-status : (value : Option (List ℕ)) (status : Option Status) (answer : Bool)
    → status ≡ option_map status_class value
    → answer ≡ option_eq eq-value.it status (Some statuses.Interim)
    → answer ≡ not (is_bad_status (or_nothing value) || not (is_interim_status (or_nothing value)))
unfolding status_class is_bad_status is_status_code or_nothing
interim-status None status answer is says =
    says ∙ ap (λ (s : Option Status). option_eq eq-value.it s (Some statuses.Interim)) is
interim-status (Some value) status answer is says =
    says ∙ (ap (λ (s : Option Status). option_eq eq-value.it s (Some statuses.Interim)) is
    ∙ interim-by (is_bad_status value) (is_interim_status value)
    (bytes_eq value (codes "204") || bytes_eq value (codes "304")))

-- A value that is one of two texts fails a test that both fail.
either-text : (test : List ℕ → Bool) (value first second : List ℕ) → test first ≡ false
    → test second ≡ false → (bytes_eq value first || bytes_eq value second) ≡ true
    → test value ≡ false
either-text test value first second one two is =
    elim (or_cases (bytes_eq value first) (bytes_eq value second) is) [
      | inl same ↦ ap test ((bytes_eq-Decides value first).0 same) ∙ one
      | inr same ↦ ap test ((bytes_eq-Decides value second).0 same) ∙ two
    ]

-- A scan's status is that of a response without content where the value of `:status` is one.
pub no-content : (value : Option (List ℕ)) (status : Option Status) (answer : Bool)
    → status ≡ option_map status_class value
    → answer ≡ option_eq eq-value.it status (Some statuses.NoContent)
    → answer ≡ (bytes_eq (or_nothing value) (codes "204")
    || bytes_eq (or_nothing value) (codes "304"))
unfolding status_class is_bad_status is_status_code is_interim_status or_nothing
no-content None status answer is says =
    says ∙ ap (λ (s : Option Status). option_eq eq-value.it s (Some statuses.NoContent)) is
no-content (Some value) status answer is says =
    says ∙ (ap (λ (s : Option Status). option_eq eq-value.it s (Some statuses.NoContent)) is
    ∙ none-by (is_bad_status value) (is_interim_status value)
    (bytes_eq value (codes "204") || bytes_eq value (codes "304"))
    (either-text is_bad_status value (codes "204") (codes "304") refl refl)
    (either-text is_interim_status value (codes "204") (codes "304") refl refl))
