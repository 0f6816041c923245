-- The rules of a message, as the checks list them.
use Rattle.h2_message.proofs.Names
use Names.{◌≡◌, ℕ, ◌||◌, Bool, false, [], ◌∷◌, length, Option, ap, ap₂, ◌∙◌, Request}
use Names.{Response, BadName, BadValue, PseudoPlace, PseudoUnknown, PseudoTwice, PseudoMissing}
use Names.{BadMethod, BadPath, BadStatus, ConnectionField, BadLength, Scan, lacks_pseudo}
use Names.{has_bad_method, has_bad_path, has_bad_status, is_interim, has_bad_length}
use Names.{declared_length, SentMessage, first_broken, trailer_fields, differs_from, has_wrong_body}
use Names.{request_rules, response_rules, broken_by_request, broken_by_response, IsScan}
use Rattle.h2_message.proofs.CheckBodies.{or-where}

-- The rule that a request breaks is the first one of its scans.
pub request-broken : (message : SentMessage) (head trailers : Scan)
    (lacks method path wrong : Bool) → IsScan Request message.head head
    → IsScan Request (trailer_fields message.trailers) trailers
    → lacks ≡ lacks_pseudo Request message.head → method ≡ has_bad_method message.head
    → path ≡ has_bad_path message.head
    → wrong ≡ differs_from head.length (length message.body)
    → first_broken (
    (head.bad_name || trailers.bad_name, BadName)
    ∷ (head.bad_value || trailers.bad_value, BadValue)
    ∷ (head.late_pseudo || trailers.pseudo, PseudoPlace)
    ∷ (head.unknown_pseudo, PseudoUnknown)
    ∷ (head.pseudo_twice, PseudoTwice)
    ∷ (lacks, PseudoMissing)
    ∷ (method, BadMethod)
    ∷ (path, BadPath)
    ∷ (head.connection_field || trailers.connection_field, ConnectionField)
    ∷ (head.bad_length || wrong, BadLength)
    ∷ []
    ) ≡ broken_by_request message
unfolding request_rules
request-broken message head trailers lacks method path wrong h t l m p w =
    let last : (head.bad_length || wrong) ≡ (has_bad_length message.head
    || differs_from (declared_length message.head) (length message.body)) =
    ap₂ (λ (a b : Bool). a || b) h.bad_length w
    ∙ or-where (has_bad_length message.head) _ _ (λ good.
    ap (λ (o : Option ℕ). differs_from o (length message.body)) (h.length good)) in
    cc

-- The rule that a response breaks is the first one of its scans.
pub response-broken : (to_head : Bool) (message : SentMessage) (head trailers : Scan)
    (lacks status wrong : Bool) → IsScan Response message.head head
    → IsScan Request (trailer_fields message.trailers) trailers
    → lacks ≡ lacks_pseudo Response message.head
    → status ≡ (has_bad_status message.head || is_interim message.head)
    → (has_bad_length message.head ≡ false → wrong ≡ has_wrong_body to_head message)
    → first_broken (
    (head.bad_name || trailers.bad_name, BadName)
    ∷ (head.bad_value || trailers.bad_value, BadValue)
    ∷ (head.late_pseudo || trailers.pseudo, PseudoPlace)
    ∷ (head.unknown_pseudo, PseudoUnknown)
    ∷ (head.pseudo_twice, PseudoTwice)
    ∷ (lacks, PseudoMissing)
    ∷ (status, BadStatus)
    ∷ (head.connection_field || trailers.connection_field, ConnectionField)
    ∷ (head.bad_length || wrong, BadLength)
    ∷ []
    ) ≡ broken_by_response to_head message
unfolding response_rules
response-broken to_head message head trailers lacks status wrong h t l s w =
    let last : (head.bad_length || wrong)
    ≡ (has_bad_length message.head || has_wrong_body to_head message) =
    ap (λ (b : Bool). b || wrong) h.bad_length
    ∙ or-where (has_bad_length message.head) wrong (has_wrong_body to_head message) w in
    cc
