-- A whole message that breaks no rule is read to its end.
use Rattle.std.specs.Prelude.{map}
use Rattle.h2_message.proofs.Names
use Names.{◌≡◌, ℕ, ◌+◌, ◌-◌, ◌≤◌, Bool, true, false, List, [], ◌∷◌, ◌++◌, length, Option, None}
use Names.{Some, refl, ap, ◌∙◌, arith, AllByRecursion, sum_by, le-ltb, sum_by-cons, Field, Reads}
use Names.{Requests, Responses, Phase, AtHead, InBody, AtEnd, first_broken, interim_rules, Part}
use Names.{FieldsPart, OctetsPart, BreakNone, ReadMessage, final_rules, compared_length, IsDeclared}
use Names.{AreSoundTrailers, AreSoundInterims, IsWellRead, trailers_parts, final_parts, ended}
use Names.{message_parts, IsReadable, is_short, phase_in_body, phase_after_final, phase_after_head}
use Names.{phase_after_data, phase_after, phase_after_all}
use Rattle.h2_message.proofs.ReadingRules.{some_not_none, not_both}
use Rattle.h2_message.proofs.PhaseSteps.{after_none, after_both}

-- the parts after the final head
abbrev pub body_parts : List (List ℕ) → Option (List Field) → List Part
body_parts data_parts trailers = map OctetsPart data_parts ++ trailers_parts trailers

-- A part before others doesn't end the message.
pub ended_more : (part : Part) (parts : List Part) → (parts ≡ [] → ⊥)
    → ended (part ∷ parts) ≡ (part, false) ∷ ended parts
unfolding ended
ended_more part [] some = absurd (some refl)
ended_more part (next ∷ parts) some = refl

-- After one part, and then the others.
pub after_one : (reads : Reads) (phase next : Phase) (part : Part × Bool)
    (parts : List (Part × Bool)) (end : Option Phase) → phase_after reads phase part ≡ Some next
    → phase_after_all reads (Some next) parts ≡ end
    → phase_after_all reads (Some phase) (part ∷ parts) ≡ end
unfolding phase_after_all
after_one reads phase next part parts end one others =
    ap (λ (taken : Option Phase). phase_after_all reads taken parts) one ∙ others

-- A body of which nothing is to come can end.
pub ends_here : (left : Option ℕ) → IsDeclared left 0 → phase_in_body left true ≡ Some AtEnd
unfolding phase_in_body is_short IsDeclared
ends_here None declared = refl
ends_here (Some number) declared = rw declared

-- Octets before the last part.
data_more : (reads : Reads) (left : Option ℕ) (octets : List ℕ) (sum : ℕ)
    → IsDeclared left (length octets + sum)
    → (rest : Option ℕ)
    × (phase_after reads (InBody left) (OctetsPart octets, false) ≡ Some (InBody rest))
    × IsDeclared rest sum
unfolding phase_after phase_after_data phase_in_body IsDeclared
data_more reads None octets sum declared = (None, refl, tt)
data_more reads (Some number) octets sum declared =
    let enough : length octets ≤ number = omega arith in
    (Some (number - length octets), rw (le-ltb number (length octets) enough), omega arith)

-- Octets that are the last part.
data_last : (reads : Reads) (left : Option ℕ) (octets : List ℕ)
    → IsDeclared left (length octets + 0)
    → phase_after reads (InBody left) (OctetsPart octets, true) ≡ Some AtEnd
unfolding phase_after phase_after_data IsDeclared
data_last reads None octets declared = ends_here None tt
data_last reads (Some number) octets declared =
    let enough : length octets ≤ number = omega arith in
    rw (le-ltb number (length octets) enough)
    (ends_here (Some (number - length octets)) (omega arith))

-- Trailers.
trailers_last : (reads : Reads) (left : Option ℕ) (fields : List Field) → IsDeclared left 0
    → AreSoundTrailers (Some fields)
    → phase_after reads (InBody left) (FieldsPart fields, true) ≡ Some AtEnd
unfolding phase_after is_short IsDeclared AreSoundTrailers
trailers_last reads None fields declared sound = rw sound
trailers_last reads (Some number) fields declared sound = rw (declared, sound)

-- A whole body.
whole_body : (reads : Reads) (left : Option ℕ) (data_parts : List (List ℕ))
    (trailers : Option (List Field)) → IsDeclared left (sum_by length data_parts)
    → AreSoundTrailers trailers → (body_parts data_parts trailers ≡ [] → ⊥)
    → phase_after_all reads (Some (InBody left)) (ended (body_parts data_parts trailers))
    ≡ Some AtEnd
unfolding ended trailers_parts phase_after_all
whole_body reads left [] None declared sound some = absurd (some refl)
whole_body reads left [] (Some fields) declared sound some =
    after_one reads (InBody left) AtEnd (FieldsPart fields, true) [] (Some AtEnd)
    (trailers_last reads left fields declared sound) refl
whole_body reads left (octets ∷ []) None declared sound some =
    after_one reads (InBody left) AtEnd (OctetsPart octets, true) [] (Some AtEnd)
    (data_last reads left octets (rw sum_by-cons at declared)) refl
whole_body reads left (octets ∷ []) (Some fields) declared sound some =
    let more = data_more reads left octets 0 (rw sum_by-cons at declared) in
    after_one reads (InBody left) (InBody more.0) (OctetsPart octets, false)
    (ended (FieldsPart fields ∷ [])) (Some AtEnd) more.1
    (whole_body reads more.0 [] (Some fields) more.2 sound (λ none. cc))
whole_body reads left (octets ∷ (next ∷ others)) trailers declared sound some =
    let more =
    data_more reads left octets (sum_by length (next ∷ others)) (rw sum_by-cons at declared) in
    after_one reads (InBody left) (InBody more.0) (OctetsPart octets, false)
    (ended (body_parts (next ∷ others) trailers)) (Some AtEnd) more.1
    (whole_body reads more.0 (next ∷ others) trailers more.2 sound (λ none. cc))

-- A final head.
pub after_final : (reads : Reads) (head : List Field) (end : Bool)
    → BreakNone (final_rules reads head)
    → phase_after_head reads head end ≡ phase_in_body (compared_length reads head) end
unfolding phase_after_head phase_after_final final_rules
after_final Requests head end none = rw none
after_final (Responses to_head) head end none =
    rw (some_not_none (first_broken (interim_rules head)) (not_both head none), none)

-- From the final head on.
whole_final : (reads : Reads) (head : List Field) (data_parts : List (List ℕ))
    (trailers : Option (List Field)) → BreakNone (final_rules reads head)
    → IsDeclared (compared_length reads head) (sum_by length data_parts)
    → AreSoundTrailers trailers
    → phase_after_all reads (Some AtHead) (ended (FieldsPart head ∷ body_parts data_parts trailers))
    ≡ Some AtEnd
unfolding phase_after phase_after_all ended trailers_parts phase_in_body
whole_final reads head [] None none declared sound =
    after_one reads AtHead AtEnd (FieldsPart head, true) [] (Some AtEnd)
    (after_final reads head true none ∙ ends_here (compared_length reads head) declared) refl
whole_final reads head [] (Some fields) none declared sound =
    after_one reads AtHead (InBody (compared_length reads head)) (FieldsPart head, false)
    (ended (FieldsPart fields ∷ [])) (Some AtEnd) (after_final reads head false none)
    (whole_body reads (compared_length reads head) [] (Some fields) declared sound (λ none. cc))
whole_final reads head (octets ∷ others) trailers none declared sound =
    after_one reads AtHead (InBody (compared_length reads head)) (FieldsPart head, false)
    (ended (body_parts (octets ∷ others) trailers)) (Some AtEnd) (after_final reads head false none)
    (
    whole_body reads (compared_length reads head) (octets ∷ others) trailers declared sound
    (λ none. cc)
    )

-- Interim responses.
pub after_interim : (to_head : Bool) (fields : List Field) → BreakNone (interim_rules fields)
    → phase_after_head (Responses to_head) fields false ≡ Some AtHead
unfolding phase_after_head
after_interim to_head fields none = rw none

after_interims : (to_head : Bool) (interims : List (List Field)) (parts : List (Part × Bool))
    → AllByRecursion (λ fields. BreakNone (interim_rules fields)) interims
    → phase_after_all (Responses to_head) (Some AtHead)
    (map (λ fields. (FieldsPart fields, false)) interims ++ parts)
    ≡ phase_after_all (Responses to_head) (Some AtHead) parts
unfolding phase_after
after_interims to_head [] parts sound = refl
after_interims to_head (fields ∷ interims) parts sound =
    after_one (Responses to_head) AtHead AtHead (FieldsPart fields, false)
    (map (λ fields. (FieldsPart fields, false)) interims ++ parts)
    (phase_after_all (Responses to_head) (Some AtHead) parts)
    (after_interim to_head fields sound.0) (after_interims to_head interims parts sound.1)

-- A whole message.
pub whole_message : (reads : Reads) (message : ReadMessage) → IsWellRead reads message
    → phase_after_all reads (Some AtHead) (message_parts message) ≡ Some AtEnd
unfolding message_parts final_parts AreSoundInterims
whole_message Requests message well =
    rw well.interims
    (whole_final Requests message.head message.data_parts message.trailers well.head well.declared
    well.trailers)
whole_message (Responses to_head) message well =
    after_interims to_head message.interims (ended (final_parts message)) well.interims
    ∙ whole_final (Responses to_head) message.head message.data_parts message.trailers well.head
    well.declared well.trailers

-- What has no phase begins no message that breaks no rule.
pub not_readable : (reads : Reads) (parts : List (Part × Bool))
    → phase_after_all reads (Some AtHead) parts ≡ None → IsReadable reads parts → ⊥
not_readable reads parts none readable =
    let whole : phase_after_all reads (Some AtHead) (message_parts readable.message) ≡ Some AtEnd =
    whole_message reads readable.message readable.well in
    let nothing : phase_after_all reads (Some AtHead) (message_parts readable.message) ≡ None =
    ap (phase_after_all reads (Some AtHead)) readable.begins
    ∙ after_both reads (Some AtHead) parts readable.more
    ∙ ap (λ (phase : Option Phase). phase_after_all reads phase readable.more) none
    ∙ after_none reads readable.more in
    cc
