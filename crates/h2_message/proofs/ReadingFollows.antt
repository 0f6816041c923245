-- What a reading is after one part more.
use Rattle.h2_message.proofs.Names.{◌≡◌, ℕ, Bool, true, false, List, [], ◌∷◌, ◌++◌, length, Option}
use Rattle.h2_message.proofs.Names.{None, Some, refl, sym, ap, ◌∙◌, Field, Reads, Requests, Phase}
use Rattle.h2_message.proofs.Names.{AtHead, InBody, asks_head, Part, FieldsPart, OctetsPart}
use Rattle.h2_message.proofs.Names.{IsReadable, phase_after_head, phase_after_data, phase_after}
use Rattle.h2_message.proofs.Names.{phase_after_all, asks_head_first, place_at_head, place_in}
use Rattle.std.specs.Prelude.{◌≢◌, IsNone, IfSome}
use Rattle.h2_message.specs.declared.reading.Place.{Place}
use Rattle.h2_message.specs.declared.reading.Place.TheVariants as places
use Rattle.h2_message.specs.declared.reading.Reading.{Reading}
use Rattle.h2_message.specs.Phases.{phase_if_taken, Follows, FollowsFields, FollowsData}
use Rattle.h2_message.proofs.PhaseSteps.{after_both}
use Rattle.h2_message.proofs.PhaseWhole.{after_one, not_readable}
use Rattle.h2_message.proofs.ReadingSteps.{readable}
use Rattle.h2_message.proofs.PhaseEnds.{no_parts, asks_as_before}

module _ (reads : Reads) (parts : List (Part × Bool)) (part : Part × Bool) (old : Reading) where
  -- The phase after one part more.
  phase_of_both : Follows reads parts old
      → phase_after_all reads (Some AtHead) (parts ++ part ∷ []) ≡ phase_after_all reads
      (Some old.phase) (part ∷ [])
  phase_of_both follows = after_both reads (Some AtHead) parts (part ∷ [])
      ∙ ap (λ (phase : Option Phase). phase_after_all reads phase (part ∷ [])) follows.phase

  -- A part that is refused.
  refused : Follows reads parts old → phase_after reads old.phase part ≡ None
      → IsReadable reads (parts ++ part ∷ []) → ⊥
  unfolding phase_after_all
  refused follows none = not_readable reads (parts ++ part ∷ []) (phase_of_both follows
      ∙ ap (λ (phase : Option Phase). phase_after_all reads phase []) none)

  -- A part that is taken.
  taken_part : (new : Reading) → Follows reads parts old
      → phase_after reads old.phase part ≡ Some new.phase → new.reads ≡ old.reads
      → (reads ≡ Requests → new.asks_head ≡ asks_head_first (parts ++ part ∷ []))
      → (reads ≢ Requests → new.asks_head ≡ old.asks_head) → Follows reads (parts ++ part ∷ []) new
  unfolding phase_after_all
  taken_part new follows taken same asks stays =
      let phase : phase_after_all reads (Some AtHead) (parts ++ part ∷ []) ≡ Some new.phase =
      phase_of_both follows
      ∙ after_one reads old.phase new.phase part [] (Some new.phase) taken refl in
      record {
        reads_is = same ∙ follows.reads_is;
        phase = phase;
        readable = readable reads (parts ++ part ∷ []) new.phase phase;
        asks_head = asks;
        asks_none = λ others. stays others ∙ follows.asks_none others;
      }

  -- What asks with HEAD still does after the head.
  asks_still : (new : Reading) → Follows reads parts old → (old.phase ≡ AtHead → ⊥)
      → new.asks_head ≡ old.asks_head → reads ≡ Requests
      → new.asks_head ≡ asks_head_first (parts ++ part ∷ [])
  asks_still new follows later same requests = same ∙ follows.asks_head requests
      ∙ sym (asks_as_before reads parts (part ∷ []) old.phase follows.phase later)

-- After the head of a request.
asks_first : (parts : List (Part × Bool)) (list : List Field) (end : Bool) (asks : Bool)
    → parts ≡ [] → asks ≡ asks_head list
    → asks ≡ asks_head_first (parts ++ (FieldsPart list, end) ∷ [])
unfolding asks_head_first
asks_first parts list end asks none is = rw none is

-- A field block where a head is due.
pub head_follows : (reads : Reads) (parts : List (Part × Bool)) (list : List Field) (end : Bool)
    (result : Option Place) (old new : Reading) → Follows reads parts old → old.phase ≡ AtHead
    → phase_after_head old.reads list end ≡ phase_if_taken result new.phase
    → (IsNone result → new ≡ old)
    → IfSome result (λ place. place ≡ place_at_head old.reads list) → new.reads ≡ old.reads
    → (old.reads ≡ Requests → IfSome result (λ place. new.asks_head ≡ asks_head list))
    → (old.reads ≢ Requests → new.asks_head ≡ old.asks_head)
    → FollowsFields reads parts list end result old new
unfolding FollowsFields phase_after place_in
head_follows reads parts list end None old new follows due phase none place same asks stays =
    let is : phase_after reads old.phase (FieldsPart list, end) ≡ None =
    rw (due, ← follows.reads_is) phase in
    (refused reads parts (FieldsPart list, end) old follows is, none refl)
head_follows reads parts list end
    (Some found) old new follows due phase none place same asks stays =
    let is : phase_after reads old.phase (FieldsPart list, end) ≡ Some new.phase =
    rw (due, ← follows.reads_is) phase in (
      taken_part reads parts (FieldsPart list, end) old new follows is same (
          λ requests. asks_first parts list end new.asks_head
          (no_parts parts (rw (requests, due) at follows.phase))
          (asks (follows.reads_is ∙ requests))
          ) (λ others. stays (λ requests. others (sym follows.reads_is ∙ requests))),
      rw (follows.phase, due, ← follows.reads_is) place,
    )

-- A field block after the head.
pub trailers_follow : (reads : Reads) (parts : List (Part × Bool)) (list : List Field) (end : Bool)
    (left : Option ℕ) (old new : Reading) → Follows reads parts old → old.phase ≡ InBody left
    → phase_after reads (InBody left) (FieldsPart list, end) ≡ Some new.phase
    → new.reads ≡ old.reads → new.asks_head ≡ old.asks_head
    → FollowsFields reads parts list end (Some places.Trailers) old new
unfolding FollowsFields place_in
trailers_follow reads parts list end left old new follows due phase same asks = (
  taken_part reads parts (FieldsPart list, end) old new follows (rw due phase) same (
      asks_still reads parts (FieldsPart list, end) old new follows
      (λ (head : old.phase ≡ AtHead). cc) asks
      ) (λ others. asks),
  rw (follows.phase, due),
)

-- A field block that is refused after the head.
pub fields_refused : (reads : Reads) (parts : List (Part × Bool)) (list : List Field) (end : Bool)
    (phase : Phase) (old new : Reading) → Follows reads parts old → old.phase ≡ phase
    → phase_after reads phase (FieldsPart list, end) ≡ None → new ≡ old
    → FollowsFields reads parts list end None old new
unfolding FollowsFields
fields_refused reads parts list end phase old new follows due none same =
    (refused reads parts (FieldsPart list, end) old follows (rw due none), same)

-- Octets.
pub data_follows : (reads : Reads) (parts : List (Part × Bool)) (octets : List ℕ) (end : Bool)
    (left : Option ℕ) (old new : Reading) → Follows reads parts old → old.phase ≡ InBody left
    → phase_after_data left (length octets) end ≡ Some new.phase
    → new.reads ≡ old.reads → new.asks_head ≡ old.asks_head
    → FollowsData reads parts octets end true old new
unfolding FollowsData phase_after
data_follows reads parts octets end left old new follows due phase same asks =
    taken_part reads parts (OctetsPart octets, end) old new follows (rw due phase) same (
    asks_still reads parts (OctetsPart octets, end) old new follows
    (λ (head : old.phase ≡ AtHead). cc) asks
    ) (λ others. asks)

pub data_refused : (reads : Reads) (parts : List (Part × Bool)) (octets : List ℕ) (end : Bool)
    (phase : Phase) (old new : Reading) → Follows reads parts old → old.phase ≡ phase
    → phase_after reads phase (OctetsPart octets, end) ≡ None → new ≡ old
    → FollowsData reads parts octets end false old new
unfolding FollowsData
data_refused reads parts octets end phase old new follows due none same =
    (refused reads parts (OctetsPart octets, end) old follows (rw due none), same)
