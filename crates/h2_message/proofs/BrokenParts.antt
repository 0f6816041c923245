-- A part that is refused breaks a rule, and one that is taken breaks none.
use Rattle.std.specs.Prelude.{is_some, not, ◌||◌, ◌&&◌, nat_lt, ◌==◌, ◌↔◌, if◌then◌else◌}
use Rattle.h2_message.proofs.Names
use Names.{◌≡◌, ℕ, ◌-◌, ◌<◌, ◌≤◌, Bool, true, false, List, [], ◌∷◌, ◌++◌, length, Option, None, Some}
use Names.{refl, sym, ap, ◌∙◌, arith, Field, Malformed, BadLength, Reads, Requests, Responses, Phase}
use Names.{AtHead, InBody, AtEnd, Part, FieldsPart, OctetsPart, first_broken, final_rules}
use Names.{interim_rules, trailer_rules, compared_length, is_short, phase_in_body, phase_after_final}
use Names.{phase_after_head, phase_after_data, phase_after, phase_after_all, breaks_length}
use Names.{IsReadable, inl, inr, le-ltb, lt-ltb, unwrap_or}
use Rattle.std.proofs.lemmas.Bool.{ltb-false}
use Rattle.std.proofs.lemmas.Bool.Decides.{eqb_tells}
use Rattle.hpack.proofs.Tests.{none_since}
use Rattle.std.proofs.Math.Nat.{eq-or-lt_of_le}
use Rattle.h2_message.proofs.BodyLengths.{broken_of_both}
use Rattle.h2_message.specs.Broken.{rules_of_final, rules_of_head, rules_of_part, broken_at}
use Rattle.h2_message.specs.Broken.{broken_in, broken_after, is_status_interim}
use Rattle.h2_message.specs.declared.malformed.Malformed.TheVariants.{BadOrder}
use Rattle.h2_message.proofs.PhaseSteps.{after_both}
use Rattle.h2_message.proofs.PhaseWhole.{not_readable}
use Rattle.h2_message.proofs.ReadingSteps.{readable}
use Rattle.h2_message.proofs.ReadingHeads.{interim_refused, interim_taken}
use Rattle.h2_message.proofs.ReadingHeads.{interim_broken}

-- The first rule that is broken of two lists is one of the first list, or else of the second.
pub broken_first : (one other : List (Bool × Malformed)) (rule : Malformed)
    → first_broken one ≡ Some rule → first_broken (one ++ other) ≡ Some rule
broken_first one other rule is = rw (broken_of_both one other, is)

pub broken_second : (one other : List (Bool × Malformed)) → first_broken one ≡ None
    → first_broken (one ++ other) ≡ first_broken other
broken_second one other none = rw (broken_of_both one other, none)

-- Whether the rule that is named says that nothing comes next.
abbrev pub NamesRefusal : Option Malformed → Option Phase → Type 0
NamesRefusal broken next = is_some broken ≡ not (is_some next)

-- Whether octets are to come, by how many are.
pub short_is : (left : Option ℕ) → is_short left ≡ nat_lt 0 (unwrap_or left 0)
unfolding is_short
short_is None = refl
short_is (Some number) = refl

-- A head that ends a message too soon.
short_end : (short : Bool)
    → is_some (if short then Some BadLength else None) ≡ not (is_some (if short then None
    else Some AtEnd))
short_end true = refl
short_end false = refl

ends_names : (left : Option ℕ) (end : Bool)
    → NamesRefusal (first_broken ((end && is_short left, BadLength) ∷ [])) (phase_in_body left end)
unfolding first_broken phase_in_body
ends_names left false = refl
ends_names left true = short_end (is_short left)

-- A final head.
final_names : (reads : Reads) (list : List Field) (end : Bool)
    → NamesRefusal (first_broken (rules_of_final reads list end)) (phase_after_final reads list end)
unfolding phase_after_final
final_names reads list end =
    let left : Option ℕ = compared_length reads list in
    let rest : List (Bool × Malformed) = (end && is_short left, BadLength) ∷ [] in
    elim (first_broken (final_rules reads list)) as (λ (found : Option Malformed).
    first_broken (final_rules reads list) ≡ found
    → NamesRefusal (first_broken (rules_of_final reads list end))
    (if is_some found then None else phase_in_body left end)) [
      | None ↦ λ is. rw (broken_second (final_rules reads list) rest is) (ends_names left end)
      | Some rule ↦ λ is. rw (broken_first (final_rules reads list) rest rule is) refl
    ] refl

-- An interim head whose fields break no rule.
interim_names : (to_head : Bool) (list : List Field) (end : Bool) → is_status_interim list ≡ true
    → first_broken (interim_rules list) ≡ None
    → NamesRefusal (first_broken (interim_rules list ++ (end, BadOrder) ∷ []))
    (phase_after_head (Responses to_head) list end)
unfolding first_broken
interim_names to_head list true is none =
    rw (
      broken_second (interim_rules list) ((true, BadOrder) ∷ []) none,
      interim_refused to_head list true is (inl refl),
    ) refl
interim_names to_head list false is none =
    rw (
      broken_second (interim_rules list) ((false, BadOrder) ∷ []) none,
      interim_taken to_head list false refl (ap is_some none),
    ) refl

-- A final head of a response is one that breaks a rule of interim ones.
final_head : (to_head : Bool) (list : List Field) (end : Bool) → is_status_interim list ≡ false
    → phase_after_head (Responses to_head) list end ≡ phase_after_final (Responses to_head) list end
unfolding phase_after_head
final_head to_head list end final = rw (interim_broken list final)

-- A head of a response.
response_names : (to_head : Bool) (list : List Field) (end interim : Bool)
    → is_status_interim list ≡ interim
    → NamesRefusal (first_broken (if interim then interim_rules list ++ (end, BadOrder) ∷ []
    else rules_of_final (Responses to_head) list end))
    (phase_after_head (Responses to_head) list end)
unfolding phase_after_head first_broken
response_names to_head list end true is =
    elim (first_broken (interim_rules list)) as (λ (found : Option Malformed).
    first_broken (interim_rules list) ≡ found
    → NamesRefusal (first_broken (interim_rules list ++ (end, BadOrder) ∷ []))
    (phase_after_head (Responses to_head) list end)) [
      | None ↦ λ none. interim_names to_head list end is none
      | Some rule ↦ λ some.
          rw (
            broken_first (interim_rules list) ((end, BadOrder) ∷ []) rule some,
            interim_refused to_head list end is (inr (ap is_some some)),
          ) refl
    ] refl
response_names to_head list end false is =
    rw (final_head to_head list end is) (final_names (Responses to_head) list end)

-- A head.
head_names : (reads : Reads) (list : List Field) (end : Bool)
    → NamesRefusal (first_broken (rules_of_head reads list end)) (phase_after_head reads list end)
unfolding rules_of_head phase_after_head
head_names Requests list end = final_names Requests list end
head_names (Responses to_head) list end =
    response_names to_head list end (is_status_interim list) refl

-- Trailers.
trailers_test : (end short : Bool)
    → NamesRefusal (first_broken ((end && short, BadLength) ∷ (not end, BadOrder) ∷ []))
    (if not end || short || false then None else Some AtEnd)
unfolding first_broken
trailers_test true true = refl
trailers_test true false = refl
trailers_test false true = refl
trailers_test false false = refl

refused_trailers : (end short : Bool)
    → is_some (if not end || short || true then None else Some AtEnd) ≡ false
refused_trailers true true = refl
refused_trailers true false = refl
refused_trailers false short = refl

trailers_names : (reads : Reads) (left : Option ℕ) (list : List Field) (end : Bool)
    → NamesRefusal (broken_at reads (InBody left) (FieldsPart list, end))
    (phase_after reads (InBody left) (FieldsPart list, end))
unfolding rules_of_part phase_after
trailers_names reads left list end =
    let rest : List (Bool × Malformed) =
    (end && is_short left, BadLength) ∷ (not end, BadOrder) ∷ [] in
    elim (first_broken (trailer_rules list)) as (λ (found : Option Malformed).
    first_broken (trailer_rules list) ≡ found
    → NamesRefusal (first_broken (trailer_rules list ++ rest))
    (if not end || is_short left || is_some found then None else Some AtEnd)) [
      | None ↦ λ none. rw (broken_second (trailer_rules list) rest none)
          (trailers_test end (is_short left))
      | Some rule ↦ λ some. rw (
        broken_first (trailer_rules list) rest rule some,
        refused_trailers end (is_short left),
      ) refl
    ] refl

-- Octets of a body.
more : (number count : ℕ) → count ≤ number → (number ≡ count → ⊥) → 0 < number - count
more number count least other =
    elim (eq-or-lt_of_le least) [
      | inl same ↦ absurd (other (sym same))
      | inr less ↦ omega arith
    ]

left_over : (number count : ℕ) → nat_lt number count ≡ false
    → nat_lt 0 (number - count) ≡ not (number == count)
left_over number count enough =
    let least = ltb-false number count enough in
    elim (eqb_tells number count) [
      | inl same ↦ rw (same.0, le-ltb 0 (number - count) (let is = same.1 in omega arith)) refl
      | inr other ↦ rw (other.0, lt-ltb 0 (number - count) (more number count least other.1)) refl
    ]

octets_test : (number count : ℕ) (end : Bool) (less : Bool) → nat_lt number count ≡ less
    → NamesRefusal (first_broken ((less || (end && not (number == count)), BadLength) ∷ []))
    (if less then None else phase_in_body (Some (number - count)) end)
unfolding first_broken phase_in_body is_short
octets_test number count end true is = refl
octets_test number count false false is = refl
octets_test number count true false is =
    rw (left_over number count is) (short_end (not (number == count)))

octets_names : (reads : Reads) (left : Option ℕ) (octets : List ℕ) (end : Bool)
    → NamesRefusal (broken_at reads (InBody left) (OctetsPart octets, end))
    (phase_after reads (InBody left) (OctetsPart octets, end))
unfolding rules_of_part phase_after phase_after_data breaks_length first_broken phase_in_body
    is_short
octets_names reads None octets true = refl
octets_names reads None octets false = refl
octets_names reads (Some number) octets end =
    octets_test number (length octets) end (nat_lt number (length octets)) refl

-- A rule is named of a part exactly where it isn't taken.
part_names : (reads : Reads) (phase : Phase) (part : Part × Bool)
    → NamesRefusal (broken_at reads phase part) (phase_after reads phase part)
unfolding rules_of_part phase_after first_broken
part_names reads AtHead (FieldsPart list, end) = head_names reads list end
part_names reads AtHead (OctetsPart octets, end) = refl
part_names reads (InBody left) (FieldsPart list, end) = trailers_names reads left list end
part_names reads (InBody left) (OctetsPart octets, end) = octets_names reads left octets end
part_names reads AtEnd part = refl

-- What is readable has a phase.
phase_of : (reads : Reads) (parts : List (Part × Bool)) (found : Option Phase)
    → phase_after_all reads (Some AtHead) parts ≡ found → IsReadable reads parts
    → (phase : Phase) × (found ≡ Some phase)
phase_of reads parts None is reads_so = absurd (not_readable reads parts is reads_so)
phase_of reads parts (Some phase) is reads_so = (phase, refl)

both_ways_named : (reads : Reads) (parts : List (Part × Bool)) (part : Part × Bool)
    (phase : Phase) → phase_after_all reads (Some AtHead) parts ≡ Some phase
    → (next : Option Phase) → phase_after reads phase part ≡ next
    → NamesRefusal (broken_at reads phase part) next
    → phase_after_all reads (Some AtHead) (parts ++ part ∷ []) ≡ phase_after_all reads next []
    → (broken_after reads parts part ≡ None) ↔ IsReadable reads (parts ++ part ∷ [])
unfolding broken_in phase_after_all
both_ways_named reads parts part phase is None after names all = (
  λ none. let some : is_some (broken_at reads phase part) ≡ true = names in
      let not_some : broken_at reads phase part ≡ None = rw is at none in cc,
  λ goes. absurd (not_readable reads (parts ++ part ∷ []) all goes),
)
both_ways_named reads parts part phase is (Some next) after names all = (
  λ none. readable reads (parts ++ part ∷ []) next all,
  λ goes. rw is (none_since (broken_at reads phase part) names),
)

-- So a part breaks no rule exactly where it can be read after what was read before it.
pub named_where_refused : (reads : Reads) (parts : List (Part × Bool)) (part : Part × Bool)
    → IsReadable reads parts
    → (broken_after reads parts part ≡ None) ↔ IsReadable reads (parts ++ part ∷ [])
unfolding broken_in phase_after_all
named_where_refused reads parts part before =
    let has = phase_of reads parts _ refl before in
    let names = part_names reads has.0 part in
    let all : phase_after_all reads (Some AtHead) (parts ++ part ∷ [])
    ≡ phase_after_all reads (phase_after reads has.0 part) [] =
    after_both reads (Some AtHead) parts (part ∷ [])
    ∙ ap (λ (phase : Option Phase). phase_after_all reads phase (part ∷ [])) has.1 in
    both_ways_named reads parts part has.0 has.1 (phase_after reads has.0 part) refl names all

-- The rule that is named at a phase is named after the parts that lead to it.
pub named_at : (reads : Reads) (parts : List (Part × Bool)) (part : Part × Bool) (phase : Phase)
    (rule : Option Malformed) → phase_after_all reads (Some AtHead) parts ≡ Some phase
    → rule ≡ broken_at reads phase part → rule ≡ broken_after reads parts part
unfolding broken_in
named_at reads parts part phase rule is named = rw is named

-- The rule of a part, at each place.
module _ (reads : Reads) (list : List Field) (end : Bool) where
  pub rule_at_head : broken_at reads AtHead (FieldsPart list, end)
      ≡ first_broken (rules_of_head reads list end)
  unfolding rules_of_part
  rule_at_head = refl

  pub rule_of_trailers : (left : Option ℕ) (rule : Malformed)
      → first_broken (trailer_rules list) ≡ Some rule
      → Some rule ≡ broken_at reads (InBody left) (FieldsPart list, end)
  unfolding rules_of_part
  rule_of_trailers left rule is =
      let rest : List (Bool × Malformed) =
      (end && is_short left, BadLength) ∷ (not end, BadOrder) ∷ [] in
      sym (broken_first (trailer_rules list) rest rule is)

  pub rule_of_order : (left : Option ℕ) → first_broken (trailer_rules list) ≡ None
      → first_broken ((end && is_short left, BadLength) ∷ (not end, BadOrder) ∷ [])
      ≡ broken_at reads (InBody left) (FieldsPart list, end)
  unfolding rules_of_part
  rule_of_order left none =
      let rest : List (Bool × Malformed) =
      (end && is_short left, BadLength) ∷ (not end, BadOrder) ∷ [] in
      sym (broken_second (trailer_rules list) rest none)

pub rule_at_end : (reads : Reads) (part : Part × Bool)
    → Some BadOrder ≡ broken_at reads AtEnd part
unfolding rules_of_part first_broken
rule_at_end reads part = refl

pub rule_of_early : (reads : Reads) (octets : List ℕ) (end : Bool) (phase : Phase)
    → ((left : Option ℕ) → phase ≡ InBody left → ⊥)
    → Some BadOrder ≡ broken_at reads phase (OctetsPart octets, end)
unfolding rules_of_part first_broken
rule_of_early reads octets end AtHead other = refl
rule_of_early reads octets end (InBody left) other = absurd (other left refl)
rule_of_early reads octets end AtEnd other = refl

pub rule_of_octets : (reads : Reads) (left : Option ℕ) (octets : List ℕ) (end : Bool)
    → first_broken ((breaks_length left (length octets) end, BadLength) ∷ [])
    ≡ broken_at reads (InBody left) (OctetsPart octets, end)
unfolding rules_of_part
rule_of_octets reads left octets end = refl

-- The rules of a head.
module _ (list : List Field) (end : Bool) where
  pub rule_of_request : (rule : Malformed) → first_broken (final_rules Requests list) ≡ Some rule
      → Some rule ≡ first_broken (rules_of_head Requests list end)
  unfolding rules_of_head
  rule_of_request rule is = sym (broken_first (final_rules Requests list) _ rule is)

  pub rule_of_request_end : first_broken (final_rules Requests list) ≡ None
      → first_broken ((end && is_short (compared_length Requests list), BadLength) ∷ [])
      ≡ first_broken (rules_of_head Requests list end)
  unfolding rules_of_head
  rule_of_request_end none = sym (broken_second (final_rules Requests list) _ none)

module _ (to_head : Bool) (list : List Field) (end : Bool) where
  pub rule_of_interim : is_status_interim list ≡ true → (rule : Malformed)
      → first_broken (interim_rules list) ≡ Some rule
      → Some rule ≡ first_broken (rules_of_head (Responses to_head) list end)
  unfolding rules_of_head
  rule_of_interim interim rule is =
      rw interim (sym (broken_first (interim_rules list) ((end, BadOrder) ∷ []) rule is))

  pub rule_of_interim_end : is_status_interim list ≡ true
      → first_broken (interim_rules list) ≡ None
      → first_broken ((end, BadOrder) ∷ [])
      ≡ first_broken (rules_of_head (Responses to_head) list end)
  unfolding rules_of_head
  rule_of_interim_end interim none =
      rw interim (sym (broken_second (interim_rules list) ((end, BadOrder) ∷ []) none))

  pub rule_of_response : is_status_interim list ≡ false → (rule : Malformed)
      → first_broken (final_rules (Responses to_head) list) ≡ Some rule
      → Some rule ≡ first_broken (rules_of_head (Responses to_head) list end)
  unfolding rules_of_head
  rule_of_response final rule is =
      rw final (sym (broken_first (final_rules (Responses to_head) list) _ rule is))

  pub rule_of_response_end : is_status_interim list ≡ false
      → first_broken (final_rules (Responses to_head) list) ≡ None
      → first_broken ((end && is_short (compared_length (Responses to_head) list), BadLength) ∷ [])
      ≡ first_broken (rules_of_head (Responses to_head) list end)
  unfolding rules_of_head
  rule_of_response_end final none =
      rw final (sym (broken_second (final_rules (Responses to_head) list) _ none))
