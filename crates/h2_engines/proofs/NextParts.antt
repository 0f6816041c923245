-- Which part of a message is read next: a head comes first, and nothing after the end.
use Rattle.h2_engines.proofs.Names
use Names.{◌≡◌, ℕ, ◌-◌, Bool, true, false, List, [], ◌∷◌, ◌++◌, length, Option, Some, None, refl}
use Names.{sym, ap, ◌∙◌, append_assoc, Field, Reads, Phase, Part, FieldsPart, OctetsPart}
use Names.{IsReadable, place_after, phase_after_head, phase_after, phase_after_all, ends_message}
use Names.{place_at_head, place_in, ◌≢◌, after_both, after_none}
use Rattle.h2_message.specs.declared.reading.Phase.TheVariants.{AtHead, InBody, AtEnd}
use Rattle.h2_message.specs.Reading.{final_parts, ended, message_parts, compared_length}
use Rattle.h2_message.specs.Reading.{AreSoundInterims}
use Rattle.h2_message.specs.Phases.{is_short, phase_in_body, phase_after_final, phase_after_data}
use Rattle.std.proofs.Common.{map as each}
use Rattle.std.specs.Prelude.{if◌then◌else◌}
use Rattle.h2_message.specs.declared.reading.Reads.TheVariants.{Requests}
use Rattle.h2_message.proofs.PhaseWhole.{not_readable}
use Rattle.h2_message.specs.declared.reading.Place.TheVariants as places

-- Whether no head comes next.
abbrev pub is_begun : Option Phase → Bool
is_begun None = true
is_begun (Some AtHead) = false
is_begun (Some (InBody left)) = true
is_begun (Some AtEnd) = true

-- So it is after the head of a message, and stays so.
begun_by : (test : Bool) (phase : Option Phase) → is_begun phase ≡ true
    → is_begun (if test then None else phase) ≡ true
begun_by true phase begun = refl
begun_by false phase begun = begun

body_begun : (left : Option ℕ) (end : Bool) → is_begun (phase_in_body left end) ≡ true
unfolding phase_in_body
body_begun left false = refl
body_begun left true = begun_by (is_short left) (Some AtEnd) refl

pub final_begun : (reads : Reads) (list : List Field) (end : Bool)
    → is_begun (phase_after_final reads list end) ≡ true
unfolding phase_after_final
final_begun reads list end = begun_by _ _ (body_begun (compared_length reads list) end)

data_begun : (left : Option ℕ) (count : ℕ) (end : Bool)
    → is_begun (phase_after_data left count end) ≡ true
unfolding phase_after_data
data_begun None count end = body_begun None end
data_begun (Some number) count end = begun_by _ _ (body_begun (Some (number - count)) end)

part_begun : (reads : Reads) (phase : Phase) (part : Part × Bool) → is_begun (Some phase) ≡ true
    → is_begun (phase_after reads phase part) ≡ true
unfolding phase_after
part_begun reads AtHead part begun = cc
part_begun reads (InBody left) (FieldsPart list, end) begun = begun_by _ (Some AtEnd) refl
part_begun reads (InBody left) (OctetsPart octets, end) begun = data_begun left (length octets) end
part_begun reads AtEnd part begun = refl

pub stays_begun : (reads : Reads) (phase : Option Phase) (parts : List (Part × Bool))
    → is_begun phase ≡ true → is_begun (phase_after_all reads phase parts) ≡ true
unfolding phase_after_all
stays_begun reads None parts begun = ap is_begun (after_none reads parts)
stays_begun reads (Some phase) [] begun = begun
stays_begun reads (Some phase) (part ∷ parts) begun =
    stays_begun reads (phase_after reads phase part) parts (part_begun reads phase part begun)

pub request_begun : (first : Part × Bool) (parts : List (Part × Bool))
    → is_begun (phase_after_all Requests (Some AtHead) (first ∷ parts)) ≡ true
unfolding phase_after_all phase_after phase_after_head
request_begun (FieldsPart list, end) parts = stays_begun Requests _ _ (final_begun Requests _ _)
request_begun (OctetsPart octets, end) parts = ap is_begun (after_none Requests parts)

-- What is read with one part more has a phase before it, that isn't the last.
pub one_more : {reads : Reads} (parts : List (Part × Bool)) (part : Part × Bool)
    {phase : Option Phase} → phase_after_all reads (Some AtHead) parts ≡ phase
    → IsReadable reads (parts ++ part ∷ []) → phase_after_all reads phase (part ∷ []) ≢ None
one_more {reads} parts part is readable none =
    not_readable reads (parts ++ part ∷ []) (after_both reads (Some AtHead) parts (part ∷ []) ∙ ap
    (λ (now : Option Phase). phase_after_all reads now (part ∷ [])) is ∙ none) readable

ends_all : (reads : Reads) (part : Part × Bool)
    → phase_after_all reads (Some AtEnd) (part ∷ []) ≡ None
unfolding phase_after_all phase_after
ends_all reads part = refl

-- The first field block of a request is its head,
pub place_first : (list : List Field) → place_after Requests [] list ≡ places.Head
unfolding phase_after_all place_in place_at_head
place_first list = refl

-- and where no head comes next, one is the trailers.
place_by : {reads : Reads} (parts : List (Part × Bool)) (list : List Field) (last : Bool)
    (phase : Option Phase) → phase_after_all reads (Some AtHead) parts ≡ phase
    → is_begun phase ≡ true → IsReadable reads (parts ++ (FieldsPart list, last) ∷ [])
    → place_in reads phase list ≡ places.Trailers
unfolding place_in
place_by {reads} parts list last None is begun readable =
    absurd (one_more _ _ is readable (after_none reads ((FieldsPart list, last) ∷ [])))
place_by parts list last (Some AtHead) is begun readable = cc
place_by parts list last (Some (InBody left)) is begun readable = refl
place_by {reads} parts list last (Some AtEnd) is begun readable =
    absurd (one_more _ _ is readable (ends_all reads (FieldsPart list, last)))

pub place_later : {reads : Reads} (parts : List (Part × Bool)) (list : List Field) (last : Bool)
    → is_begun (phase_after_all reads (Some AtHead) parts) ≡ true
    → IsReadable reads (parts ++ (FieldsPart list, last) ∷ [])
    → place_after reads parts list ≡ places.Trailers
place_later parts list last begun readable = place_by parts list last _ refl begun readable

-- A request doesn't begin with octets.
octets_at_head : (octets : List ℕ) (last : Bool)
    → phase_after_all Requests (Some AtHead) ((OctetsPart octets, last) ∷ []) ≡ None
unfolding phase_after_all phase_after phase_after_head
octets_at_head octets last = refl

pub no_octets_first : (octets : List ℕ) (last : Bool)
    → IsReadable Requests ((OctetsPart octets, last) ∷ []) → ⊥
no_octets_first octets last readable = not_readable Requests _ (octets_at_head _ _) readable

-- What is read of a request begins its parts from the head on,
request_parts : {parts : List (Part × Bool)} (readable : IsReadable Requests parts)
    → ended (final_parts readable.message) ≡ parts ++ readable.more
unfolding message_parts AreSoundInterims
request_parts readable =
    let same : message_parts readable.message ≡ ended (final_parts readable.message) =
    ap (λ (interims : List (List Field)). each
    (λ (fields : List Field). (FieldsPart fields, false)) interims ++ ended
    (final_parts readable.message)) readable.well.interims in
    sym same ∙ readable.begins

-- and what comes before another part doesn't end.
goes_before : (line : List Part) (parts : List (Part × Bool)) (part : Part × Bool)
    (more : List (Part × Bool)) → ended line ≡ parts ++ part ∷ more → ends_message parts ≡ false
unfolding ended ends_message
goes_before line [] part more is = refl
goes_before [] (first ∷ parts) part more is = cc
goes_before (one ∷ []) (first ∷ []) part more is = cc
goes_before (one ∷ []) (first ∷ (next ∷ parts)) part more is = cc
goes_before (one ∷ (two ∷ line)) ((first, last) ∷ []) part more is =
    let same : (one, false) ≡ (first, last) = cc in
    ap (λ (both : Part × Bool). both.1) (sym same)
goes_before (one ∷ (two ∷ line)) (first ∷ (next ∷ parts)) part more is =
    let rest : ended (two ∷ line) ≡ (next ∷ parts) ++ part ∷ more = cc in
    goes_before (two ∷ line) (next ∷ parts) part more rest

pub goes_with : (parts : List (Part × Bool)) (part : Part × Bool)
    → IsReadable Requests (parts ++ part ∷ []) → ends_message parts ≡ false
goes_with parts part readable =
    goes_before (final_parts readable.message) parts part readable.more
    (request_parts readable ∙ append_assoc parts (part ∷ []) readable.more)
