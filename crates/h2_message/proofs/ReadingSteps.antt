-- Whatever was taken begins a whole message that breaks no rule.
use Rattle.std.specs.Prelude.{if◌then◌else◌, nat_lt, is_some, not, ◌||◌}
use Rattle.std.proofs.lemmas.Bool.{ltb-false}
use Rattle.hpack.proofs.Tests.{none_since as none_not_some}
use Rattle.h2_message.proofs.Names
use Names.{◌≡◌, ℕ, ◌+◌, ◌-◌, Bool, true, false, List, [], ◌∷◌, ◌++◌, length, Option, None, Some}
use Names.{refl, sym, ap, ◌∙◌, arith, sum_by, sum_by-cons, Field, Reads, Requests, Responses, Phase}
use Names.{AtHead, InBody, AtEnd, first_broken, interim_rules, trailer_rules, Part, FieldsPart}
use Names.{OctetsPart, BreakNone, final_rules, compared_length, IsDeclared, AreSoundTrailers}
use Names.{AreSoundInterims, trailers_parts, message_parts, final_parts, ended, IsReadable}
use Names.{is_short, phase_in_body, phase_after_final, phase_after_head, phase_after_data}
use Names.{phase_after, phase_after_all}
use Rattle.h2_message.proofs.PhaseSteps.{after_none}
use Rattle.h2_message.proofs.PhaseWhole.{body_parts, ended_more}
use Rattle.h2_message.proofs.ReadingWhole.{WholeBody, WholeMessage, Completes, something_comes}
use Rattle.h2_message.proofs.ReadingWhole.{no_interims}

-- What is taken passes the test.
pub passes : {X : Type 0} (test : Bool) (option : Option X) (value : X)
    → (if test then None else option) ≡ Some value → (test ≡ false) × (option ≡ Some value)
passes true option value taken = cc
passes false option value taken = (refl, taken)

-- Where a body can end, nothing of it is to come.
short_declared : (left : Option ℕ) → is_short left ≡ false → IsDeclared left 0
unfolding is_short IsDeclared
short_declared None none = tt
short_declared (Some number) none = let least = ltb-false 0 number none in omega arith

pub ends_body : (left : Option ℕ) (next : Phase) → phase_in_body left true ≡ Some next
    → IsDeclared left 0 × (next ≡ AtEnd)
unfolding phase_in_body
ends_body left next taken =
    let passed = passes (is_short left) (Some AtEnd) next taken in
    (short_declared left passed.0, cc)

-- What a body is after octets.
after_octets : (reads : Reads) (left rest_left : Option ℕ) (octets : List ℕ) (end : Bool)
    (next : Phase) (rest : List (Part × Bool))
    → ((sum : ℕ) → IsDeclared rest_left sum → IsDeclared left (length octets + sum))
    → phase_in_body rest_left end ≡ Some next → Completes reads next rest
    → WholeBody left ((OctetsPart octets, end) ∷ rest)
unfolding phase_in_body AreSoundTrailers ended trailers_parts
after_octets reads left rest_left octets false next rest adds taken completes =
    let same : InBody rest_left ≡ next = cc in
    let body : WholeBody rest_left rest = rw (← same) at completes in
    let others = body_parts body.data_parts body.trailers in
    record {
      data_parts = octets ∷ body.data_parts;
      trailers = body.trailers;
      declared = rw sum_by-cons (adds (sum_by length body.data_parts) body.declared);
      sound = body.sound;
      some = (λ none. cc);
      parts = ap (λ (parts : List (Part × Bool)). (OctetsPart octets, false) ∷ parts) body.parts
          ∙ sym (ended_more (OctetsPart octets) others body.some);
    }
after_octets reads left rest_left octets true next rest adds taken completes =
    let last = ends_body rest_left next taken in
    let nothing : rest ≡ [] = rw last.1 at completes in
    record {
      data_parts = octets ∷ [];
      trailers = None;
      declared = rw sum_by-cons (adds 0 last.0);
      sound = tt;
      some = (λ none. cc);
      parts = ap (λ (parts : List (Part × Bool)). (OctetsPart octets, true) ∷ parts) nothing;
    }

octets_step : (reads : Reads) (left : Option ℕ) (octets : List ℕ) (end : Bool) (next : Phase)
    (rest : List (Part × Bool)) → phase_after_data left (length octets) end ≡ Some next
    → Completes reads next rest → WholeBody left ((OctetsPart octets, end) ∷ rest)
unfolding phase_after_data IsDeclared
octets_step reads None octets end next rest taken completes =
    after_octets reads None None octets end next rest (λ sum declared. tt) taken completes
octets_step reads (Some number) octets end next rest taken completes =
    let passed =
    passes (nat_lt number (length octets)) (phase_in_body (Some (number - length octets)) end) next
    taken in
    let enough = ltb-false number (length octets) passed.0 in
    after_octets reads (Some number) (Some (number - length octets)) octets end next rest
    (λ sum declared. omega arith) passed.1 completes

-- the tests of trailers
pub trailers_tests : (end short broken : Bool) → (not end || short || broken) ≡ false
    → (end ≡ true) × (short ≡ false) × (broken ≡ false)
trailers_tests true false false none = (refl, refl, refl)
trailers_tests true false true none = cc
trailers_tests true true broken none = cc
trailers_tests false short broken none = cc

-- Trailers.
trailers_step : (reads : Reads) (left : Option ℕ) (list : List Field) (end : Bool) (next : Phase)
    (rest : List (Part × Bool))
    → phase_after reads (InBody left) (FieldsPart list, end) ≡ Some next
    → Completes reads next rest → WholeBody left ((FieldsPart list, end) ∷ rest)
unfolding phase_after AreSoundTrailers ended trailers_parts
trailers_step reads left list end next rest taken completes =
    let broken = is_some (first_broken (trailer_rules list)) in
    let passed = passes (not end || is_short left || broken) (Some AtEnd) next taken in
    let tests = trailers_tests end (is_short left) broken passed.0 in
    let last : AtEnd ≡ next = cc in
    let nothing : rest ≡ [] = rw (← last) at completes in
    record {
      data_parts = [];
      trailers = Some list;
      declared = short_declared left tests.1;
      sound = none_not_some (first_broken (trailer_rules list)) tests.2;
      some = (λ none. cc);
      parts = rw (nothing, tests.0);
    }

-- A final head.
final_step : (reads : Reads) (head : List Field) (end : Bool) (next : Phase)
    (rest : List (Part × Bool)) → phase_after_final reads head end ≡ Some next
    → Completes reads next rest → WholeMessage reads ((FieldsPart head, end) ∷ rest)
unfolding phase_after_final phase_in_body message_parts final_parts AreSoundTrailers ended
    trailers_parts
final_step reads head false next rest taken completes =
    let passed = passes (is_some (first_broken (final_rules reads head)))
    (phase_in_body (compared_length reads head) false) next taken in
    let sound = none_not_some (first_broken (final_rules reads head)) passed.0 in
    let same : InBody (compared_length reads head) ≡ next = let is = passed.1 in cc in
    let body : WholeBody (compared_length reads head) rest = rw (← same) at completes in
    record {
      message = record {
        interims = [];
        head = head;
        data_parts = body.data_parts;
        trailers = body.trailers;
      };
      well = record {
        interims = no_interims reads;
        head = sound;
        trailers = body.sound;
        declared = body.declared;
      };
      parts = ap (λ (parts : List (Part × Bool)). (FieldsPart head, false) ∷ parts) body.parts
          ∙ sym (ended_more (FieldsPart head) (body_parts body.data_parts body.trailers) body.some);
    }
final_step reads head true next rest taken completes =
    let passed = passes (is_some (first_broken (final_rules reads head)))
    (phase_in_body (compared_length reads head) true) next taken in
    let sound = none_not_some (first_broken (final_rules reads head)) passed.0 in
    let last = ends_body (compared_length reads head) next passed.1 in
    let nothing : rest ≡ [] = rw last.1 at completes in
    record {
      message = record { interims = []; head = head; data_parts = []; trailers = None };
      well = record {
        interims = no_interims reads;
        head = sound;
        trailers = tt;
        declared = last.0;
      };
      parts = ap (λ (parts : List (Part × Bool)). (FieldsPart head, true) ∷ parts) nothing;
    }

-- An interim head.
interim_step : (to_head : Bool) (fields : List Field) (rest : List (Part × Bool))
    → BreakNone (interim_rules fields) → WholeMessage (Responses to_head) rest
    → WholeMessage (Responses to_head) ((FieldsPart fields, false) ∷ rest)
unfolding message_parts final_parts AreSoundInterims
interim_step to_head fields rest sound whole = record {
  message = record whole.message { interims = fields ∷ whole.message.interims };
  well = record {
    interims = (sound, whole.well.interims);
    head = whole.well.head;
    trailers = whole.well.trailers;
    declared = whole.well.declared;
  };
  parts = ap (λ (parts : List (Part × Bool)). (FieldsPart fields, false) ∷ parts) whole.parts;
}

-- A head, interim or final.
after_interim_test : (to_head : Bool) (list : List Field) (end : Bool) (next : Phase)
    (rest : List (Part × Bool)) (broken : Bool)
    → is_some (first_broken (interim_rules list)) ≡ broken
    → (if broken then phase_after_final (Responses to_head) list end
    else (if end then None else Some AtHead)) ≡ Some next
    → Completes (Responses to_head) next rest
    → WholeMessage (Responses to_head) ((FieldsPart list, end) ∷ rest)
after_interim_test to_head list end next rest true is taken completes =
    final_step (Responses to_head) list end next rest taken completes
after_interim_test to_head list end next rest false is taken completes =
    let passed = passes end (Some AtHead) next taken in
    let same : AtHead ≡ next = let took = passed.1 in cc in
    let whole : WholeMessage (Responses to_head) rest = rw (← same) at completes in
    rw passed.0
    (interim_step to_head list rest (none_not_some (first_broken (interim_rules list)) is) whole)

head_step : (reads : Reads) (list : List Field) (end : Bool) (next : Phase)
    (rest : List (Part × Bool)) → phase_after_head reads list end ≡ Some next
    → Completes reads next rest → WholeMessage reads ((FieldsPart list, end) ∷ rest)
unfolding phase_after_head
head_step Requests list end next rest taken completes =
    final_step Requests list end next rest taken completes
head_step (Responses to_head) list end next rest taken completes =
    after_interim_test to_head list end next rest (is_some (first_broken (interim_rules list))) refl
    taken completes

-- A part, and what completes the message after it.
one_step : (reads : Reads) (phase next : Phase) (part : Part × Bool) (rest : List (Part × Bool))
    → phase_after reads phase part ≡ Some next → Completes reads next rest
    → Completes reads phase (part ∷ rest)
unfolding phase_after
one_step reads AtHead next (FieldsPart list, end) rest taken completes =
    head_step reads list end next rest taken completes
one_step reads AtHead next (OctetsPart octets, end) rest taken completes = cc
one_step reads (InBody left) next (FieldsPart list, end) rest taken completes =
    trailers_step reads left list end next rest taken completes
one_step reads (InBody left) next (OctetsPart octets, end) rest taken completes =
    octets_step reads left octets end next rest taken completes
one_step reads AtEnd next part rest taken completes = cc

-- Parts that are taken can be completed.
all_steps : (reads : Reads) (phase next : Phase) (parts : List (Part × Bool))
    → phase_after_all reads (Some phase) parts ≡ Some next
    → (more : List (Part × Bool)) × Completes reads phase (parts ++ more)
unfolding phase_after_all
all_steps reads phase next [] taken = something_comes reads phase
all_steps reads phase next (part ∷ parts) taken =
    elim (phase_after reads phase part) as (λ (after : Option Phase).
    phase_after reads phase part ≡ after → phase_after_all reads after parts ≡ Some next
    → (more : List (Part × Bool)) × Completes reads phase (part ∷ (parts ++ more))) [
      | None ↦ λ is none. let nothing = after_none reads parts in cc
      | Some after ↦ λ is others.
          let rest = all_steps reads after next parts others in
          (rest.0, one_step reads phase after part (parts ++ rest.0) is rest.1)
    ] refl taken

-- What has a phase begins a message that breaks no rule.
pub readable : (reads : Reads) (parts : List (Part × Bool)) (phase : Phase)
    → phase_after_all reads (Some AtHead) parts ≡ Some phase → IsReadable reads parts
readable reads parts phase taken =
    let whole = all_steps reads AtHead phase parts taken in
    let found : WholeMessage reads (parts ++ whole.0) = whole.1 in
    record {
      message = found.message;
      more = whole.0;
      well = found.well;
      begins = sym found.parts;
    }
