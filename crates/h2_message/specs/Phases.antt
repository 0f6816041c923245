-- What a reading is after the parts that it has taken.
-- contract: h2_message::Reading::fields
use Rattle.std.specs.Prelude.{◌≡◌, ◌≢◌, ◌-◌, nat_lt, ℕ, Bool, true, false, if◌then◌else◌}
use Rattle.std.specs.Prelude.{List, [], ◌∷◌, ◌++◌, length, Option, Some, None, is_some, ◌||◌, not}
use Rattle.hpack.specs.declared.types.field.Field.{Field}
use Rattle.h2_message.specs.declared.reading.Reads.{Reads}
use Rattle.h2_message.specs.declared.reading.Reads.TheVariants.{Requests, Responses}
use Rattle.h2_message.specs.declared.reading.Phase.{Phase}
use Rattle.h2_message.specs.declared.reading.Phase.TheVariants.{AtHead, InBody, AtEnd}
use Rattle.h2_message.specs.declared.reading.Place.{Place}
use Rattle.h2_message.specs.declared.reading.Place.TheVariants as places
use Rattle.h2_message.specs.declared.reading.Reading.{Reading}
use Rattle.h2_message.specs.Messages.{first_broken, interim_rules, trailer_rules, asks_head}
use Rattle.h2_message.specs.Reading.{Part, FieldsPart, OctetsPart, IsReadable, final_rules}
use Rattle.h2_message.specs.Reading.{compared_length}

-- Whether octets of the body are still to come.
unfoldable pub is_short : Option ℕ → Bool
is_short None = false
is_short (Some number) = nat_lt 0 number

-- the phase with so many octets of the body to come
-- rule: 8.1.1 DATA that is read is as long as content-length says, or breaks M11
unfoldable pub phase_in_body : Option ℕ → (end : Bool) → Option Phase
phase_in_body left false = Some (InBody left)
phase_in_body left true = if is_short left then None else Some AtEnd

-- the phase after a head
unfoldable pub phase_after_final : Reads → List Field → (end : Bool) → Option Phase
phase_after_final reads list end =
    if is_some (first_broken (final_rules reads list)) then None
    else phase_in_body (compared_length reads list) end

unfoldable pub phase_after_head : Reads → List Field → (end : Bool) → Option Phase
phase_after_head Requests list end = phase_after_final Requests list end
phase_after_head (Responses to_head) list end =
    if is_some (first_broken (interim_rules list))
    then phase_after_final (Responses to_head) list end
    else (if end then None else Some AtHead)

-- the phase after so many octets of the body
-- rule: 8.1.1 DATA that is read is as long as content-length says, or breaks M11
unfoldable pub phase_after_data : Option ℕ → ℕ → (end : Bool) → Option Phase
phase_after_data None count end = phase_in_body None end
phase_after_data (Some number) count end =
    if nat_lt number count then None else phase_in_body (Some (number - count)) end

-- the phase after one part more, where it is taken
-- rule: 8.1 (own) A part is read where the parts so far begin a well-formed message
unfoldable pub phase_after : Reads → Phase → (Part × Bool) → Option Phase
phase_after reads AtHead (FieldsPart list, end) = phase_after_head reads list end
phase_after reads AtHead (OctetsPart octets, end) = None
phase_after reads (InBody left) (FieldsPart list, end) =
    if not end || is_short left || is_some (first_broken (trailer_rules list)) then None
    else Some AtEnd
phase_after reads (InBody left) (OctetsPart octets, end) =
    phase_after_data left (length octets) end
phase_after reads AtEnd part = None

-- the phase after parts, the first one first
unfoldable pub phase_after_all : Reads → Option Phase → List (Part × Bool) → Option Phase
phase_after_all reads None parts = None
phase_after_all reads (Some phase) [] = Some phase
phase_after_all reads (Some phase) (part ∷ parts) =
    phase_after_all reads (phase_after reads phase part) parts

-- the phase where a field block was taken
abbrev pub phase_if_taken : Option Place → Phase → Option Phase
phase_if_taken None phase = None
phase_if_taken (Some place) phase = Some phase

-- Whether what was read of a stream as a request asks with HEAD.
-- rule: HTTP 9.3.2 A request asks with HEAD where the method of its head is HEAD
unfoldable pub asks_head_first : List (Part × Bool) → Bool
asks_head_first ((FieldsPart list, end) ∷ parts) = asks_head list
asks_head_first _ = false

-- Whether the last part has END_STREAM.
-- rule: 8.1 END_STREAM ends the message, and any further part breaks M12
unfoldable pub ends_message : List (Part × Bool) → Bool
ends_message [] = false
ends_message ((part, end) ∷ []) = end
ends_message (part ∷ (next ∷ parts)) = ends_message (next ∷ parts)

-- The reading has taken these parts, the first one first: they begin a message that breaks no rule.
-- rule: 8.1 (own) A part is read where the parts so far begin a well-formed message
pub record Follows (reads : Reads) (parts : List (Part × Bool)) (reading : Reading) : Type 0 where
  pub reads_is : reading.reads ≡ reads
  pub phase : phase_after_all reads (Some AtHead) parts ≡ Some reading.phase
  pub readable : IsReadable reads parts
  pub asks_head : reads ≡ Requests → reading.asks_head ≡ asks_head_first parts
  pub asks_none : reads ≢ Requests → reading.asks_head ≡ false

-- Whether a list is the head of an interim response, where a head is due.
-- rule: 8.1 Interim responses come before the final head, without END_STREAM
unfoldable pub place_at_head : Reads → List Field → Place
place_at_head Requests list = places.Head
place_at_head (Responses to_head) list =
    if is_some (first_broken (interim_rules list)) then places.Head else places.Interim

unfoldable pub place_in : Reads → Option Phase → List Field → Place
place_in reads (Some (InBody left)) list = places.Trailers
place_in reads phase list = place_at_head reads list

-- which part of a message a field block is after these parts: the trailers after a final head,
-- otherwise the head, or an interim one where its status is 1xx
-- rule: 8.1 A field block after the final head is the trailers, with END_STREAM
abbrev pub place_after : Reads → List (Part × Bool) → List Field → Place
place_after reads parts list = place_in reads (phase_after_all reads (Some AtHead) parts) list

-- A field block is taken exactly where what was read with it begins a message that breaks no rule.
-- rule: 8.1 (own) A part is read where the parts so far begin a well-formed message
unfoldable pub FollowsFields : Reads → List (Part × Bool) → List Field → Bool → Option Place
    → (old new : Reading) → Type 0
FollowsFields reads parts list end None old new =
    (IsReadable reads (parts ++ (FieldsPart list, end) ∷ []) → ⊥) × (new ≡ old)
FollowsFields reads parts list end (Some place) old new =
    Follows reads (parts ++ (FieldsPart list, end) ∷ []) new
    × (place ≡ place_after reads parts list)

-- The same of octets of a body.
-- rule: 8.1 (own) A part is read where the parts so far begin a well-formed message
unfoldable pub FollowsData : Reads → List (Part × Bool) → List ℕ → Bool → Bool
    → (old new : Reading) → Type 0
FollowsData reads parts octets end false old new =
    (IsReadable reads (parts ++ (OctetsPart octets, end) ∷ []) → ⊥) × (new ≡ old)
FollowsData reads parts octets end true old new =
    Follows reads (parts ++ (OctetsPart octets, end) ∷ []) new
