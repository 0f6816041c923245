-- What waits of a message, as sending goes on.
use Rattle.h2_ends.proofs.Names
use Names.{◌≡◌, ◌≢◌, ◌⊎◌, inl, inr, ℕ, zero, suc, ◌+◌, ◌-◌, ◌<◌, ◌≤◌, ◌==◌, ◌&&◌, Bool, true}
use Names.{false, List, [], ◌∷◌, ◌++◌, length, take, drop, Option, Some, None, refl, sym, ap, ◌∙◌}
use Names.{subst, append_assoc, append-nil, length-drop, arith, list_any, both_ways, and_from}
use Names.{false_from_ne_true, eq-eqb, drop-append_seam, take-length, nat_tests, Role, Values}
use Names.{SendFields, SendData, Count, Done, ends, IsLog, has_room, Field, is_too_large, Said}
use Names.{Token, FieldsToken, OctetToken, EndToken, Waiting, EndLog, said_for, tokens_out}
use Names.{tokens_said, tokens_waiting, IsStuckOn, BodyWaits, TrailersWait, end_after_call}
use Names.{IsWaiting, tokens_kept, trailer_fields, end_tokens, tokens_of_call, trailers_tokens}
use Names.{said_tokens, tokens_given, IsOutgoing, is_none, option_map}
use Rattle.std.proofs.lemmas.List.{map-append, take-append-drop, drop-drop}
use Rattle.std.proofs.Common.{map as each}
use Rattle.h2_laws_end.specs.Sendings.{lists_accepted, settings_received}
use Rattle.h2_laws_end.proofs.Sendings.{log_sent}
use Rattle.h2_laws_pair.proofs.HeardLists.{blocks_of_lists}
use Rattle.h2_laws_pair.proofs.HeardMessages.{ended_tokens, unended}
use Rattle.h2_laws_pair.proofs.HeardSent.{tokens_carried}
use Rattle.h2_ends.proofs.PumpStuck.{out_after, stuck_empty, stuck_octet}
use Rattle.h2_ends.specs.declared.outgoing.Outgoing.TheVariants as outgoings

-- what waits after the octets of the body
abbrev pub tail_kept : Waiting → List Token
tail_kept waiting =
    trailers_tokens (option_map (λ fields. fields.items) waiting.trailers) ++ EndToken ∷ []

-- what is left of its body
abbrev pub octets_left : Waiting → List ℕ
octets_left waiting = drop waiting.sent waiting.body.items

-- the same after so many octets more
abbrev pub sent_more : Waiting → ℕ → Waiting
sent_more waiting n = record waiting { sent = waiting.sent + n }

-- Something is kept: at least the end.
some_front : (tokens others : List Token) (token : Token)
    → (first : Token) × (rest : List Token) × (tokens ++ token ∷ others ≡ first ∷ rest)
some_front [] others token = (token, others, refl)
some_front (first ∷ tokens) others token = (first, tokens ++ token ∷ others, refl)

pub some_kept : (waiting : Waiting)
    → (first : Token) × (rest : List Token) × (tokens_kept waiting ≡ first ∷ rest)
some_kept waiting =
    let body = each OctetToken (octets_left waiting) in
    let trailers = trailers_tokens (option_map (λ fields. fields.items) waiting.trailers) in
    let front = some_front (body ++ trailers) [] EndToken in
    (front.0, front.1, sym (append_assoc body trailers (EndToken ∷ [])) ∙ front.2)

-- As long as something waits on a stream, this end hasn't ended it.
pub waiting_goes_on : (role : Role) (values : Values) (end : EndLog) (id : ℕ) (waiting : Waiting)
    → IsLog role values end.log → IsWaiting end id waiting
    → list_any (ends id) end.log.sent ≡ false
waiting_goes_on role values end id waiting is waits = false_from_ne_true _ (λ here.
    let log = end.log in
    let some = some_kept waiting in
    let many : length (lists_accepted log.calls) ≡ _ =
    blocks_of_lists log.sent (settings_received log.received) (lists_accepted log.calls)
    log.encoder (log_sent role values log is) in
    unended waits.said (tokens_out end id) some.0 some.1
    (waits.rest ∙ ap (λ (line : List Token). tokens_out end id ++ line) some.2)
    (rw (tokens_carried id role values log is)
    (ended_tokens id log.sent (lists_accepted log.calls) many here)))

-- What waits on a stream is what is kept.
pub said_is : (end : EndLog) (id : ℕ) (said : Said) → said_for id end.accepted ≡ Some said
    → tokens_said end id ≡ said_tokens said
unfolding tokens_given said_tokens
said_is end id said is = ap tokens_given is

pub waiting_is_kept : (end : EndLog) (id : ℕ) (waiting : Waiting) → IsWaiting end id waiting
    → tokens_waiting end id ≡ tokens_kept waiting
waiting_is_kept end id waiting waits =
    ap (drop (length (tokens_out end id)))
    (said_is end id waits.said waits.accepted ∙ waits.rest)
    ∙ drop-append_seam (tokens_out end id) (tokens_kept waiting)

-- Where nothing waits, nothing could go.
pub stuck_sent : (end : EndLog) (id : ℕ) (said : Said) → said_for id end.accepted ≡ Some said
    → said_tokens said ≡ tokens_out end id → IsStuckOn end id
stuck_sent end id said accepted all =
    stuck_empty end id (ap (drop (length (tokens_out end id)))
    (said_is end id said accepted ∙ all ∙ sym (append-nil (tokens_out end id)))
    ∙ drop-append_seam (tokens_out end id) [])

nothing_left : (n : ℕ) → drop n (tokens_given None) ≡ []
unfolding tokens_given
nothing_left zero = refl
nothing_left (suc n) = refl

-- Where nothing was accepted, nothing waits.
pub none_unsaid : (end : EndLog) (id : ℕ) → said_for id end.accepted ≡ None
    → tokens_waiting end id ≡ []
unfolding tokens_given
none_unsaid end id none =
    ap (λ (said : Option Said). drop (length (tokens_out end id)) (tokens_given said)) none
    ∙ nothing_left (length (tokens_out end id))

pub stuck_unsaid : (end : EndLog) (id : ℕ) → said_for id end.accepted ≡ None → IsStuckOn end id
unfolding tokens_given
stuck_unsaid end id none =
    stuck_empty end id (none_unsaid end id none)

-- An octet is next, where some are left.
pub some_octet : (octets : List ℕ) → length octets ≢ 0
    → (octet : ℕ) × (rest : List ℕ) × (octets ≡ octet ∷ rest)
some_octet [] some = absurd (some refl)
some_octet (octet ∷ rest) some = (octet, rest, refl)

-- Where octets wait that have no room, nothing could go.
pub stuck_waiting : (end : EndLog) (id : ℕ) (waiting : Waiting) → IsWaiting end id waiting
    → length (octets_left waiting) ≢ 0 → has_room end.log id ≡ false → IsStuckOn end id
stuck_waiting end id waiting waits some none =
    let first = some_octet (octets_left waiting) some in
    stuck_octet end id first.0 (each OctetToken first.1 ++ tail_kept waiting)
    (waiting_is_kept end id waiting waits
    ∙ ap (λ (octets : List ℕ). each OctetToken octets ++ tail_kept waiting) first.2) none

-- Trailers are none where they were none as they are kept.
as_none : {A B : Type 0} (f : A → B) (o : Option A) → is_none o ≡ is_none (option_map f o)
as_none f None = refl
as_none f (Some x) = refl

-- Octets of a body that are left wait next, and after them the trailers that are kept.
pub body_waits : (end : EndLog) (id : ℕ) (waiting : Waiting) → IsWaiting end id waiting
    → waiting.sent < length waiting.body.items
    → BodyWaits end id (octets_left waiting) (is_none waiting.trailers)
body_waits end id waiting waits some =
    let left = length-drop waiting.sent waiting.body.items in
    record {
      some = λ none. let zero_left : length (octets_left waiting) ≡ 0 = ap length none in
          omega (arith, left, zero_left, some);
      trailers = option_map (λ fields. fields.items) waiting.trailers;
      waits = waiting_is_kept end id waiting waits;
      ends_is = as_none (λ fields. fields.items) waiting.trailers;
    }

-- What octets of a body send on their stream.
pub data_tokens : (id : ℕ) (octets : List ℕ) (end : Bool) (n : ℕ)
    → tokens_of_call id (SendData id octets end) (Count n)
    ≡ each OctetToken (take n octets) ++ end_tokens (end && n == length octets)
unfolding tokens_of_call
data_tokens id octets end n = rw (eq-eqb id id refl) refl

-- Octets that were sent, and those that are left.
pub octets_split : (octets : List ℕ) (tail : List Token) (n : ℕ)
    → each OctetToken (take n octets) ++ (each OctetToken (drop n octets) ++ tail)
    ≡ each OctetToken octets ++ tail
octets_split octets tail n =
    sym (append_assoc (each OctetToken (take n octets)) (each OctetToken (drop n octets)) tail)
    ∙ ap (λ (line : List Token). line ++ tail)
    (sym (map-append OctetToken (take n octets) (drop n octets))
    ∙ ap (each OctetToken) (take-append-drop n octets))

left_split : (waiting : Waiting) (n : ℕ)
    → each OctetToken (take n (octets_left waiting)) ++ tokens_kept (sent_more waiting n)
    ≡ tokens_kept waiting
left_split waiting n =
    let octets = octets_left waiting in
    ap (λ (rest : List ℕ).
    each OctetToken (take n octets) ++ (each OctetToken rest ++ tail_kept waiting))
    (sym (drop-drop n waiting.sent waiting.body.items))
    ∙ octets_split octets (tail_kept waiting) n

-- So many octets more were sent, without the end: what is kept then waits.
kept_rest : (waiting : Waiting) (n : ℕ) (ended : Bool) (out out_after tokens : List Token)
    → ended ≡ false
    → out_after ≡ out ++ (each OctetToken (take n (octets_left waiting)) ++ end_tokens ended)
    → tokens ≡ out ++ tokens_kept waiting → tokens ≡ out_after ++ tokens_kept (sent_more waiting n)
unfolding end_tokens
kept_rest waiting n true out out_after tokens goes more is = absurd (both_ways _ goes refl)
kept_rest waiting n false out out_after tokens goes more is =
    let here = each OctetToken (take n (octets_left waiting)) in
    let kept = tokens_kept (sent_more waiting n) in
    is ∙ ap (λ (line : List Token). out ++ line) (sym (left_split waiting n))
    ∙ sym (append_assoc out here kept)
    ∙ ap (λ (line : List Token). line ++ kept)
    (sym (more ∙ ap (λ (line : List Token). out ++ line) (append-nil here)))

-- What is not nothing, with more after it, isn't.
pub begun_more : (out more : List Token) → out ≢ [] → (out ++ more) ≢ []
begun_more [] more some = λ is. some refl
begun_more (token ∷ out) more some = λ is. cc

less_by : (n left : ℕ) → n ≤ left → n == left ≡ false → n < left
less_by n left within other = grind (arith, nat_tests)

some_by : {A : Type 0} → (trailers : Option A) → (n sent size : ℕ) → n ≤ size - sent → sent ≤ size
    → (is_none trailers && n == size - sent) ≡ false → (sent + n < size) ⊎ (trailers ≢ None)
some_by None n sent size within start goes =
    let less = less_by n (size - sent) within goes in
    inl (omega (arith, less, start))
some_by (Some x) n sent size within start goes = inr (λ none. cc)

pub waits_after : (end : EndLog) (id : ℕ) (waiting : Waiting) (n : ℕ) → IsWaiting end id waiting
    → waiting.sent ≤ length waiting.body.items → n ≤ length (octets_left waiting)
    → (is_none waiting.trailers && n == length (octets_left waiting)) ≡ false
    → IsWaiting (end_after_call end (SendData id (octets_left waiting) (is_none waiting.trailers))
    (Count n)) id (sent_more waiting n)
waits_after end id waiting n waits start within goes =
    let act = SendData id (octets_left waiting) (is_none waiting.trailers) in
    let size = length-drop waiting.sent waiting.body.items in
    let out : tokens_out (end_after_call end act (Count n)) id ≡ tokens_out end id
    ++ (each OctetToken (take n (octets_left waiting))
    ++ end_tokens (is_none waiting.trailers && n == length (octets_left waiting))) =
    out_after end act (Count n) id ∙ ap (λ (line : List Token). tokens_out end id ++ line)
    (data_tokens id (octets_left waiting) (is_none waiting.trailers) n) in
    record {
      said = waits.said;
      accepted = waits.accepted;
      whole = waits.whole;
      rest = kept_rest waiting n _ (tokens_out end id) _ (said_tokens waits.said) goes out
          waits.rest;
      begun = λ none. begun_more (tokens_out end id) _ waits.begun (sym out ∙ none);
      some = some_by waiting.trailers n waiting.sent (length waiting.body.items)
          (omega (arith, within, size)) start (rw size at goes);
      fits = waits.fits;
    }

-- Once all of the body was sent, and no trailers follow, all was sent.
all_octets : (octets : List ℕ) (n : ℕ) → n ≡ length octets → take n octets ≡ octets
all_octets octets n all = rw all (take-length octets)

pub octets_all : (octets : List ℕ) (trailers : Option (List Field)) (n : ℕ) → n ≡ length octets
    → is_none trailers ≡ true → each OctetToken (take n octets) ++ EndToken ∷ []
    ≡ each OctetToken octets ++ (trailers_tokens trailers ++ EndToken ∷ [])
unfolding trailers_tokens
octets_all octets None n all none =
    ap (λ (line : List ℕ). each OctetToken line ++ EndToken ∷ []) (all_octets octets n all)
octets_all octets (Some list) n all none = absurd (both_ways false refl none)

kept_all : (waiting : Waiting) (n : ℕ) (ended : Bool) → n ≡ length (octets_left waiting)
    → is_none waiting.trailers ≡ true → ended ≡ true
    → each OctetToken (take n (octets_left waiting)) ++ end_tokens ended ≡ tokens_kept waiting
unfolding end_tokens
kept_all waiting n true all none ended =
    octets_all (octets_left waiting) (option_map (λ fields. fields.items) waiting.trailers) n all
    (sym (as_none (λ fields. fields.items) waiting.trailers) ∙ none)
kept_all waiting n false all none ended = cc

pub sent_after_data : (end : EndLog) (id : ℕ) (waiting : Waiting) (n : ℕ)
    → IsWaiting end id waiting → is_none waiting.trailers ≡ true → n ≡ length (octets_left waiting)
    → IsOutgoing (end_after_call end (SendData id (octets_left waiting) (is_none waiting.trailers))
    (Count n)) id outgoings.Sent
unfolding IsOutgoing
sent_after_data end id waiting n waits none all =
    let act = SendData id (octets_left waiting) (is_none waiting.trailers) in
    record {
      said = waits.said;
      accepted = waits.accepted;
      whole = waits.whole;
      out = waits.rest ∙ ap (λ (line : List Token). tokens_out end id ++ line)
          (sym (data_tokens id (octets_left waiting) (is_none waiting.trailers) n
          ∙ kept_all waiting n _ all none
          (and_from _ _ none (eq-eqb n (length (octets_left waiting)) all))))
          ∙ sym (out_after end act (Count n) id);
    }

-- Once no octets are left and the trailers were sent, all was sent.
pub fields_tokens : (id : ℕ) (fields : List Field)
    → tokens_of_call id (SendFields id fields true) Done
    ≡ FieldsToken fields true ∷ (EndToken ∷ [])
unfolding tokens_of_call end_tokens
fields_tokens id fields = rw (eq-eqb id id refl) refl

trailers_kept : (waiting : Waiting) (fields : List Field) → length (octets_left waiting) ≡ 0
    → option_map (λ list. list.items) waiting.trailers ≡ Some fields
    → tokens_kept waiting ≡ FieldsToken fields true ∷ (EndToken ∷ [])
unfolding trailers_tokens
trailers_kept waiting fields none are =
    ap (λ (octets : List ℕ). each OctetToken octets ++ tail_kept waiting)
    (no_octets (octets_left waiting) none)
    ∙ ap (λ (trailers : Option (List Field)). trailers_tokens trailers ++ EndToken ∷ []) are
  where
    no_octets : (octets : List ℕ) → length octets ≡ 0 → octets ≡ []
    no_octets [] none = refl
    no_octets (octet ∷ rest) none = absurd (omega (arith, none))

-- Trailers wait, once no octets are left.
pub trailers_wait : (end : EndLog) (id : ℕ) (waiting : Waiting) (fields : List Field)
    → IsWaiting end id waiting → length (octets_left waiting) ≡ 0
    → option_map (λ list. list.items) waiting.trailers ≡ Some fields → TrailersWait end id fields
trailers_wait end id waiting fields waits none are =
    waiting_is_kept end id waiting waits ∙ trailers_kept waiting fields none are

pub sent_after_fields : (end : EndLog) (id : ℕ) (waiting : Waiting) (fields : List Field)
    → IsWaiting end id waiting → length (octets_left waiting) ≡ 0
    → option_map (λ list. list.items) waiting.trailers ≡ Some fields
    → IsOutgoing (end_after_call end (SendFields id fields true) Done) id outgoings.Sent
unfolding IsOutgoing
sent_after_fields end id waiting fields waits none are =
    record {
      said = waits.said;
      accepted = waits.accepted;
      whole = waits.whole;
      out = waits.rest ∙ ap (λ (line : List Token). tokens_out end id ++ line)
          (trailers_kept waiting fields none are ∙ sym (fields_tokens id fields))
          ∙ sym (out_after end (SendFields id fields true) Done id);
    }

-- The trailers that wait aren't too large.
pub trailers_fit : (end : EndLog) (id : ℕ) (waiting : Waiting) (fields : List Field)
    → IsWaiting end id waiting → option_map (λ list. list.items) waiting.trailers ≡ Some fields
    → is_too_large fields ≡ false
unfolding trailer_fields
trailers_fit end id waiting fields waits are =
    subst (λ (trailers : Option (List Field)). is_too_large (trailer_fields trailers) ≡ false) are
    waits.fits

-- Where no octets are left, trailers are.
pub trailers_left : (end : EndLog) (id : ℕ) (waiting : Waiting) → IsWaiting end id waiting
    → length waiting.body.items ≤ waiting.sent → waiting.trailers ≢ None
trailers_left end id waiting waits none = elim waits.some [
  | inl some ↦ absurd (omega (arith, none, some))
  | inr trailers ↦ trailers
]
