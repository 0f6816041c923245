-- Which phase comes after a head, and which part of a message it is.
use Rattle.std.specs.Prelude.{is_some, not, ◌||◌}
use Rattle.h2_message.proofs.Names
use Names.{◌≡◌, Bool, true, false, List, None, Some, ◌⊎◌, inl, inr, refl, Field, Requests}
use Names.{Responses, AtHead, first_broken, head_rules, request_head_rules, response_head_rules}
use Names.{interim_rules, has_bad_status, is_interim, has_bad_length, declared_length, final_rules}
use Names.{compared_length, phase_in_body, phase_after_final, phase_after_head, place_at_head}
use Rattle.h2_message.proofs.ReadingRules.{none_hold, some_not_none, interim_status, final_status}
use Rattle.hpack.proofs.Tests.{none_since as none_not_some}
use Rattle.h2_message.proofs.PhaseWhole.{after_final, after_interim}
use Rattle.h2_message.specs.Broken.{is_status_interim}
use Rattle.h2_message.specs.declared.reading.Place.TheVariants as places

module _ (list : List Field) where
  -- A head that breaks no rule has no bad length.
  pub request_length : is_some (first_broken (request_head_rules list)) ≡ false
      → has_bad_length list ≡ false
  unfolding request_head_rules head_rules
  request_length none = (none_hold (request_head_rules list)
      (none_not_some (first_broken (request_head_rules list)) none)).1.1.1.1.1.1.1.1.1.0

  pub response_length : is_some (first_broken (response_head_rules list)) ≡ false
      → has_bad_length list ≡ false
  unfolding response_head_rules head_rules
  response_length none = (none_hold (response_head_rules list)
      (none_not_some (first_broken (response_head_rules list)) none)).1.1.1.1.1.1.1.1.0

  -- The head of a request.
  pub request_refused : (end : Bool) → is_some (first_broken (request_head_rules list)) ≡ true
      → phase_after_head Requests list end ≡ None
  unfolding phase_after_head phase_after_final final_rules
  request_refused end broken = rw broken

  pub request_taken : (end : Bool) → is_some (first_broken (request_head_rules list)) ≡ false
      → phase_after_head Requests list end ≡ phase_in_body (declared_length list) end
  unfolding final_rules compared_length
  request_taken end none =
      after_final Requests list end (none_not_some (first_broken (request_head_rules list)) none)

pub request_place : (list : List Field) → places.Head ≡ place_at_head Requests list
unfolding place_at_head
request_place list = refl

-- tests of a status
status_is_interim : (bad interim : Bool) → not (bad || not interim) ≡ true
    → (bad || interim) ≡ true
status_is_interim true interim is = refl
status_is_interim false true is = refl
status_is_interim false false is = cc

status_is_final : (bad interim : Bool) → not (bad || not interim) ≡ false
    → (bad || not interim) ≡ false → ⊥
status_is_final true interim is none = cc
status_is_final false true is none = cc
status_is_final false false is none = cc

-- An interim status breaks the rules of a final head, and another one those of an interim head.
final_broken : (list : List Field) → is_status_interim list ≡ true
    → is_some (first_broken (response_head_rules list)) ≡ true
final_broken list interim =
    some_not_none (first_broken (response_head_rules list)) (
    λ none. let one = status_is_interim (has_bad_status list) (is_interim list) interim in
    let other = final_status list none in cc
    )

pub interim_broken : (list : List Field) → is_status_interim list ≡ false
    → is_some (first_broken (interim_rules list)) ≡ true
interim_broken list final =
    some_not_none (first_broken (interim_rules list)) (
    λ none. status_is_final (has_bad_status list) (is_interim list) final (interim_status list none)
    )

-- The head of an interim response.
refused_by : (list : List Field) (end broken : Bool)
    → is_some (first_broken (interim_rules list)) ≡ broken → is_status_interim list ≡ true
    → ((end ≡ true) ⊎ (broken ≡ true)) → (to_head : Bool)
    → phase_after_head (Responses to_head) list end ≡ None
unfolding phase_after_head phase_after_final final_rules
refused_by list end true is interim why to_head = rw (is, final_broken list interim)
refused_by list true false is interim why to_head = rw is
refused_by list false false is interim (inl why) to_head = cc
refused_by list false false is interim (inr why) to_head = cc

module _ (to_head : Bool) (list : List Field) where
  pub interim_refused : (end : Bool) → is_status_interim list ≡ true
      → ((end ≡ true) ⊎ (is_some (first_broken (interim_rules list)) ≡ true))
      → phase_after_head (Responses to_head) list end ≡ None
  interim_refused end interim why =
      refused_by list end (is_some (first_broken (interim_rules list))) refl interim why to_head

  pub interim_taken : (end : Bool) → end ≡ false
      → is_some (first_broken (interim_rules list)) ≡ false
      → phase_after_head (Responses to_head) list end ≡ Some AtHead
  interim_taken end goes none =
      rw goes (after_interim to_head list (none_not_some (first_broken (interim_rules list)) none))

  pub interim_place : is_some (first_broken (interim_rules list)) ≡ false
      → places.Interim ≡ place_at_head (Responses to_head) list
  unfolding place_at_head
  interim_place none = rw none

  -- The final head of a response.
  pub response_refused : (end : Bool) → is_status_interim list ≡ false
      → is_some (first_broken (response_head_rules list)) ≡ true
      → phase_after_head (Responses to_head) list end ≡ None
  unfolding phase_after_head phase_after_final final_rules
  response_refused end final broken = rw (interim_broken list final, broken)

  pub response_taken : (end : Bool) → is_some (first_broken (response_head_rules list)) ≡ false
      → phase_after_head (Responses to_head) list end ≡ phase_in_body
      (compared_length (Responses to_head) list) end
  unfolding final_rules
  response_taken end none = after_final (Responses to_head) list end
      (none_not_some (first_broken (response_head_rules list)) none)

pub response_place : (to_head : Bool) (list : List Field) → is_status_interim list ≡ false
    → places.Head ≡ place_at_head (Responses to_head) list
unfolding place_at_head
response_place to_head list final = rw (interim_broken list final)
