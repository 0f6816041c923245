-- What the phase says of the parts before it.
use Rattle.std.specs.Prelude.{if◌then◌else◌, nat_lt, is_some, not, ◌||◌}
use Rattle.h2_message.proofs.Names
use Names.{◌≡◌, ℕ, ◌-◌, Bool, true, false, List, [], ◌∷◌, ◌++◌, length, Option, None, Some, refl}
use Names.{sym, Field, Reads, Requests, Responses, Phase, AtHead, InBody, AtEnd, first_broken}
use Names.{interim_rules, trailer_rules, Part, FieldsPart, OctetsPart, final_rules, compared_length}
use Names.{is_short, phase_in_body, phase_after_final, phase_after_head, phase_after_data}
use Names.{phase_after, phase_after_all, asks_head_first, ends_message}
use Rattle.h2_message.proofs.PhaseSteps.{after_none}
use Rattle.h2_message.proofs.ReadingSteps.{passes, ends_body, trailers_tests}

-- Whether the message was read whole.
abbrev pub is_end : Phase → Bool
is_end AtHead = false
is_end (InBody left) = false
is_end AtEnd = true

-- After the part that ends the message it is read whole, and after no other.
body_ends : (left : Option ℕ) (end : Bool) (next : Phase) → phase_in_body left end ≡ Some next
    → end ≡ is_end next
unfolding phase_in_body
body_ends left false next taken = let same : InBody left ≡ next = cc in rw (← same)
body_ends left true next taken = rw (ends_body left next taken).1

data_ends : (left : Option ℕ) (count : ℕ) (end : Bool) (next : Phase)
    → phase_after_data left count end ≡ Some next → end ≡ is_end next
unfolding phase_after_data
data_ends None count end next taken = body_ends None end next taken
data_ends (Some number) count end next taken =
    body_ends (Some (number - count)) end next
    (passes (nat_lt number count) (phase_in_body (Some (number - count)) end) next taken).1

final_ends : (reads : Reads) (list : List Field) (end : Bool) (next : Phase)
    → phase_after_final reads list end ≡ Some next → end ≡ is_end next
unfolding phase_after_final
final_ends reads list end next taken =
    body_ends (compared_length reads list) end next
    (passes (is_some (first_broken (final_rules reads list)))
    (phase_in_body (compared_length reads list) end) next taken).1

interim_ends : (to_head : Bool) (list : List Field) (end : Bool) (next : Phase) (broken : Bool)
    → (if broken then phase_after_final (Responses to_head) list end
    else (if end then None else Some AtHead)) ≡ Some next → end ≡ is_end next
interim_ends to_head list end next true taken = final_ends (Responses to_head) list end next taken
interim_ends to_head list true next false taken = cc
interim_ends to_head list false next false taken =
    let same : AtHead ≡ next = cc in rw (← same)

part_ends : (reads : Reads) (phase : Phase) (part : Part) (end : Bool) (next : Phase)
    → phase_after reads phase (part, end) ≡ Some next → end ≡ is_end next
unfolding phase_after phase_after_head
part_ends Requests AtHead (FieldsPart list) end next taken = final_ends Requests list end next taken
part_ends (Responses to_head) AtHead (FieldsPart list) end next taken =
    interim_ends to_head list end next (is_some (first_broken (interim_rules list))) taken
part_ends reads AtHead (OctetsPart octets) end next taken = cc
part_ends reads (InBody left) (FieldsPart list) end next taken =
    let broken = is_some (first_broken (trailer_rules list)) in
    let passed = passes (not end || is_short left || broken) (Some AtEnd) next taken in
    let last : AtEnd ≡ next = cc in
    rw (← last) (trailers_tests end (is_short left) broken passed.0).0
part_ends reads (InBody left) (OctetsPart octets) end next taken =
    data_ends left (length octets) end next taken
part_ends reads AtEnd part end next taken = cc

-- The message was read whole where the last part ended it.
ends_after : (reads : Reads) (phase next : Phase) (parts : List (Part × Bool))
    → is_end phase ≡ false → phase_after_all reads (Some phase) parts ≡ Some next
    → ends_message parts ≡ is_end next
unfolding ends_message phase_after_all phase_after
ends_after reads phase next [] before taken =
    let same : phase ≡ next = cc in rw (← same) (sym before)
ends_after reads phase next ((part, end) ∷ []) before taken =
    elim (phase_after reads phase (part, end)) as (λ (after : Option Phase).
    phase_after reads phase (part, end) ≡ after → phase_after_all reads after [] ≡ Some next
    → end ≡ is_end next) [
      | None ↦ λ is none. cc
      | Some after ↦ λ is same.
          let one : after ≡ next = cc in
          part_ends reads phase part end next (rw (← one) is)
    ] refl taken
ends_after reads phase next (part ∷ (more ∷ parts)) before taken =
    elim (phase_after reads phase part) as (λ (after : Option Phase).
    phase_after_all reads after (more ∷ parts) ≡ Some next
    → ends_message (more ∷ parts) ≡ is_end next) [
      | None ↦ λ none. cc
      | Some AtEnd ↦ λ others. let nothing = after_none reads parts in cc
      | Some AtHead ↦ λ others. ends_after reads AtHead next (more ∷ parts) refl others
      | Some (InBody left) ↦ λ others.
          ends_after reads (InBody left) next (more ∷ parts) refl others
    ] taken

pub over_where_ended : (reads : Reads) (parts : List (Part × Bool)) (phase : Phase)
    → phase_after_all reads (Some AtHead) parts ≡ Some phase → is_end phase ≡ ends_message parts
over_where_ended reads parts phase taken = sym (ends_after reads AtHead phase parts refl taken)

-- Whether a head comes next.
abbrev is_start : Phase → Bool
is_start AtHead = true
is_start (InBody left) = false
is_start AtEnd = false

-- After its head no head of a message comes.
body_goes_on : (left : Option ℕ) (end : Bool) (next : Phase) → phase_in_body left end ≡ Some next
    → is_start next ≡ false
unfolding phase_in_body
body_goes_on left false next taken = let same : InBody left ≡ next = cc in rw (← same)
body_goes_on left true next taken = rw (ends_body left next taken).1

data_goes_on : (left : Option ℕ) (count : ℕ) (end : Bool) (next : Phase)
    → phase_after_data left count end ≡ Some next → is_start next ≡ false
unfolding phase_after_data
data_goes_on None count end next taken = body_goes_on None end next taken
data_goes_on (Some number) count end next taken =
    body_goes_on (Some (number - count)) end next
    (passes (nat_lt number count) (phase_in_body (Some (number - count)) end) next taken).1

part_goes_on : (reads : Reads) (phase next : Phase) (part : Part × Bool) → is_start phase ≡ false
    → phase_after reads phase part ≡ Some next → is_start next ≡ false
unfolding phase_after
part_goes_on reads AtHead next part going taken = cc
part_goes_on reads (InBody left) next (FieldsPart list, end) going taken =
    let broken = is_some (first_broken (trailer_rules list)) in
    let passed = passes (not end || is_short left || broken) (Some AtEnd) next taken in
    let last : AtEnd ≡ next = cc in
    rw (← last)
part_goes_on reads (InBody left) next (OctetsPart octets, end) going taken =
    data_goes_on left (length octets) end next taken
part_goes_on reads AtEnd next part going taken = cc

request_goes_on : (next : Phase) (part : Part × Bool)
    → phase_after Requests AtHead part ≡ Some next → is_start next ≡ false
unfolding phase_after phase_after_head phase_after_final
request_goes_on next (FieldsPart list, end) taken =
    body_goes_on (compared_length Requests list) end next
    (passes (is_some (first_broken (final_rules Requests list)))
    (phase_in_body (compared_length Requests list) end) next taken).1
request_goes_on next (OctetsPart octets, end) taken = cc

goes_on : (reads : Reads) (phase next : Phase) (parts : List (Part × Bool))
    → is_start phase ≡ false → phase_after_all reads (Some phase) parts ≡ Some next
    → is_start next ≡ false
unfolding phase_after_all
goes_on reads phase next [] going taken =
    let same : phase ≡ next = cc in rw (← same) going
goes_on reads phase next (part ∷ parts) going taken =
    elim (phase_after reads phase part) as (λ (after : Option Phase).
    phase_after reads phase part ≡ after → phase_after_all reads after parts ≡ Some next
    → is_start next ≡ false) [
      | None ↦ λ is none. let nothing = after_none reads parts in cc
      | Some after ↦ λ is others.
          goes_on reads after next parts (part_goes_on reads phase after part going is) others
    ] refl taken

-- Where the head of a request comes next, nothing has come.
pub no_parts : (parts : List (Part × Bool))
    → phase_after_all Requests (Some AtHead) parts ≡ Some AtHead → parts ≡ []
unfolding phase_after_all
no_parts [] taken = refl
no_parts (part ∷ parts) taken =
    elim (phase_after Requests AtHead part) as (λ (after : Option Phase).
    phase_after Requests AtHead part ≡ after → phase_after_all Requests after parts ≡ Some AtHead
    → part ∷ parts ≡ []) [
      | None ↦ λ is none. let nothing = after_none Requests parts in cc
      | Some after ↦ λ is others.
          let going = goes_on Requests after AtHead parts (request_goes_on after part is) others in
          cc
    ] refl taken

-- Whether a request asks with HEAD is known from its first part.
pub asks_as_before : (reads : Reads) (parts more : List (Part × Bool)) (phase : Phase)
    → phase_after_all reads (Some AtHead) parts ≡ Some phase → (phase ≡ AtHead → ⊥)
    → asks_head_first (parts ++ more) ≡ asks_head_first parts
unfolding asks_head_first phase_after_all
asks_as_before reads [] more phase taken other =
    let same : phase ≡ AtHead = cc in absurd (other same)
asks_as_before reads ((FieldsPart list, end) ∷ parts) more phase taken other = refl
asks_as_before reads ((OctetsPart octets, end) ∷ parts) more phase taken other = refl
