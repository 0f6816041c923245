-- What is handed out of a body is what the connection has reported of it, in order.
use Rattle.std.proofs.Common.{map as each, ◌≡◌, ◌∙◌, ◌⊎◌, ℕ, ◌==◌, Bool, true, false, List, [], ◌∷◌}
use Rattle.std.proofs.Common.{◌++◌, if◌then◌else◌, inl, inr, refl, sym, ap, append-nil}
use Rattle.std.proofs.Common.{append_assoc}
use Rattle.hpack.specs.declared.types.field.Field.{Field}
use Rattle.h2_spec_log.specs.Acts.{Values}
use Rattle.h2_spec_log.specs.Events.{Event, DataEvent, FieldsEvent}
use Rattle.h2_message.specs.Reading.{Part, FieldsPart, OctetsPart}
use Rattle.h2_laws_pair.specs.Tokens.{Token, FieldsToken, OctetToken, EndToken, end_tokens}
use Rattle.h2_laws_pair.specs.Tokens.{tokens_heard, tokens_of_event}
use Rattle.h2_ends.specs.declared.end.End.{End}
use Rattle.h2_ends.specs.Ends.{EndLog, Handed, InterimHanded, HeadHanded, BodyHanded}
use Rattle.h2_ends.specs.Ends.{TrailersHanded, part_on, parts_on, tokens_handed, tokens_of_part}
use Rattle.h2_ends.specs.Ends.{tokens_of_parts}
use Rattle.h2_ends.specs.Represents.{EndRepresents, HandsInOrder}
use Rattle.h2_fetch.specs.Parts.{handed_on, is_on}
use Rattle.h2_get.specs.Receives.{HandsBody, body_handed, octets_reported}
use Rattle.h2_get.proofs.Receiving.{body_append}

-- the octets of the body among tokens
unfoldable octets_in : List Token → List ℕ
octets_in [] = []
octets_in (OctetToken octet ∷ tokens) = octet ∷ octets_in tokens
octets_in (FieldsToken list end ∷ tokens) = octets_in tokens
octets_in (EndToken ∷ tokens) = octets_in tokens

-- The octets of two lists of tokens are those of the first and those of the second.
octets_append : (one two : List Token) → octets_in (one ++ two) ≡ octets_in one ++ octets_in two
unfolding octets_in
octets_append [] two = refl
octets_append (OctetToken octet ∷ one) two =
    ap (λ (octets : List ℕ). octet ∷ octets) (octets_append one two)
octets_append (FieldsToken list end ∷ one) two = octets_append one two
octets_append (EndToken ∷ one) two = octets_append one two

octets_of_end : (end : Bool) → octets_in (end_tokens end) ≡ []
unfolding octets_in end_tokens
octets_of_end true = refl
octets_of_end false = refl

octets_of_each : (octets : List ℕ) → octets_in (each OctetToken octets) ≡ octets
unfolding octets_in
octets_of_each [] = refl
octets_of_each (octet ∷ octets) =
    ap (λ (rest : List ℕ). octet ∷ rest) (octets_of_each octets)

octets_of_data : (octets : List ℕ) (end : Bool)
    → octets_in (each OctetToken octets ++ end_tokens end) ≡ octets
octets_of_data octets end =
    octets_append (each OctetToken octets) (end_tokens end)
    ∙ ap (λ (rest : List ℕ). octets_in (each OctetToken octets) ++ rest) (octets_of_end end)
    ∙ append-nil (octets_in (each OctetToken octets)) ∙ octets_of_each octets

data_on : (on : Bool) (octets : List ℕ) (end : Bool)
    → octets_in (if on then each OctetToken octets ++ end_tokens end else [])
    ≡ (if on then octets else [])
unfolding octets_in
data_on true octets end = octets_of_data octets end
data_on false octets end = refl

fields_on : (on : Bool) (list : List Field) (end : Bool)
    → octets_in (if on then FieldsToken list end ∷ end_tokens end else []) ≡ []
unfolding octets_in
fields_on true list end = octets_of_end end
fields_on false list end = refl

-- An event that is no DATA reports no octet of a body.
other_heard : (i : ℕ) (events : List Event) (event : Event)
    → octets_in (tokens_of_event i event) ≡ []
    → octets_in (tokens_heard i events) ≡ octets_reported i events
    → octets_in (tokens_heard i (event ∷ events)) ≡ octets_reported i events
unfolding tokens_heard
other_heard i events event none heard =
    octets_append (tokens_heard i events) (tokens_of_event i event)
    ∙ ap (λ (rest : List ℕ). octets_in (tokens_heard i events) ++ rest) none
    ∙ append-nil (octets_in (tokens_heard i events)) ∙ heard

-- The octets of what was heard on a stream are those that were reported.
octets_heard : (i : ℕ) (events : List Event)
    → octets_in (tokens_heard i events) ≡ octets_reported i events
unfolding tokens_heard tokens_of_event octets_reported octets_in
octets_heard i [] = refl
octets_heard i (DataEvent id octets flow end ∷ events) =
    octets_append (tokens_heard i events) (tokens_of_event i (DataEvent id octets flow end))
    ∙ ap (λ (rest : List ℕ). octets_in (tokens_heard i events) ++ rest)
    (data_on (id == i) octets end)
    ∙ ap (λ (before : List ℕ). before ++ (if id == i then octets else [])) (octets_heard i events)
octets_heard i (FieldsEvent id list end ∷ events) =
    other_heard i events (FieldsEvent id list end) (fields_on (id == i) list end)
    (octets_heard i events)
octets_heard i (event ∷ events) = other_heard i events event refl (octets_heard i events)

-- The tokens of two lists of parts are those of the first and those of the second.
tokens_append : (one two : List (Part × Bool))
    → tokens_of_parts (one ++ two) ≡ tokens_of_parts one ++ tokens_of_parts two
unfolding tokens_of_parts
tokens_append [] two = refl
tokens_append (part ∷ one) two =
    ap (λ (rest : List Token). tokens_of_part part ++ rest) (tokens_append one two)
    ∙ sym (append_assoc (tokens_of_part part) (tokens_of_parts one) (tokens_of_parts two))

-- The octets of one part are those that are handed out with it.
fields_part : (on : Bool) (one : Handed) (list : List Field) (end : Bool)
    → body_handed (one ∷ []) ≡ []
    → octets_in (tokens_of_parts (if on then (FieldsPart list, end) ∷ [] else []))
    ≡ body_handed (if on then one ∷ [] else [])
unfolding tokens_of_parts tokens_of_part octets_in body_handed
fields_part true one list end none =
    ap octets_in (append-nil (end_tokens end)) ∙ octets_of_end end ∙ sym none
fields_part false one list end none = refl

octets_part : (on : Bool) (id : ℕ) (octets : List ℕ) (end : Bool)
    → octets_in (tokens_of_parts (if on then (OctetsPart octets, end) ∷ [] else []))
    ≡ body_handed (if on then BodyHanded id octets end ∷ [] else [])
unfolding tokens_of_parts tokens_of_part octets_in body_handed
octets_part true id octets end =
    ap octets_in (append-nil (each OctetToken octets ++ end_tokens end))
    ∙ octets_of_data octets end ∙ sym (append-nil octets)
octets_part false id octets end = refl

one_handed : (i : ℕ) (one : Handed)
    → octets_in (tokens_of_parts (part_on i one)) ≡ body_handed
    (if is_on i one then one ∷ [] else [])
unfolding part_on tokens_of_parts octets_in body_handed
one_handed i (InterimHanded id list) =
    fields_part (id == i) (InterimHanded id list) list false refl
one_handed i (HeadHanded id list end) =
    fields_part (id == i) (HeadHanded id list end) list end refl
one_handed i (BodyHanded id octets end) = octets_part (id == i) id octets end
one_handed i (TrailersHanded id list) =
    fields_part (id == i) (TrailersHanded id list) list true refl
one_handed i one = refl

-- The octets of the tokens that were handed out are those of the body.
octets_handed : (i : ℕ) (handed : List Handed)
    → octets_in (tokens_of_parts (parts_on i handed)) ≡ body_handed (handed_on i handed)
unfolding parts_on handed_on tokens_of_parts octets_in body_handed
octets_handed i [] = refl
octets_handed i (one ∷ handed) =
    ap octets_in (tokens_append (parts_on i handed) (part_on i one))
    ∙ octets_append (tokens_of_parts (parts_on i handed)) (tokens_of_parts (part_on i one))
    ∙ ap (λ (before : List ℕ). before ++ octets_in (tokens_of_parts (part_on i one)))
    (octets_handed i handed)
    ∙ ap (λ (rest : List ℕ). body_handed (handed_on i handed) ++ rest) (one_handed i one)
    ∙ sym (body_append (handed_on i handed) (if is_on i one then one ∷ [] else []))

-- So what was handed out is a prefix.
in_order : (end : EndLog) (id : ℕ) → HandsInOrder end id → HandsBody end id
in_order end id (inl same) = (
  [],
  sym (octets_heard id end.log.reported) ∙ ap octets_in same ∙ octets_handed id end.handed
      ∙ sym (append-nil (body_handed (handed_on id end.handed))),
)
in_order end id (inr cut) = (
  octets_in cut.prefix.0,
  sym (octets_heard id end.log.reported) ∙ ap octets_in cut.prefix.1
      ∙ octets_append (tokens_handed end id) cut.prefix.0
      ∙ ap (λ (handed : List ℕ). handed ++ octets_in cut.prefix.0)
      (octets_handed id end.handed),
)

pub hands_body : (values : Values) (end : End) (happened : EndLog)
    → EndRepresents values end happened → (id : ℕ) → HandsBody happened id
hands_body values end happened represents id = in_order happened id (represents.in_step id).handed
