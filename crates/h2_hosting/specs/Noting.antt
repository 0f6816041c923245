-- What is noted of an exchange: its request, and what was answered.
use Rattle.std.specs.Prelude.{◌≡◌, ◌+◌, ◌-◌, ◌*◌, ◌^◌, ◌&&◌, ℕ, Bool, List, [], ◌∷◌, min}
use Rattle.std.specs.Prelude.{length, take, codes, Option, Some, None, Result, Ok, Err}
use Rattle.std.specs.Prelude.{option_and_then, option_map}
use Rattle.std.specs.Prelude.{if◌then◌else◌, nat_le}
use Rattle.hpack.specs.declared.types.field.Field.{Field}
use Rattle.h2_folder.specs.Answering.{value_in}
use Rattle.h2_server.specs.declared.handler.HandlerFault.{HandlerFault}
use Rattle.h2_server.specs.declared.handler.Part.{Part}
use Rattle.h2_server.specs.declared.handler.Part.TheVariants.{Octets, Last}
use Rattle.h2_server.specs.declared.handler.Reply.{Reply}
use Rattle.h2_server.specs.declared.handler.Reply.TheVariants.{Whole, Refuse, Parts}
use Rattle.h2_hosting.specs.declared.logged.Note.{Note}

-- the octets of a method or a path that are noted: the first 1,024; none where no lines are written
abbrev pub noted_of : (is_noted : Bool) → List ℕ → List ℕ
noted_of is_noted octets = if is_noted then take 1024 octets else []

-- the number of a digit
abbrev pub digit_of : ℕ → Option ℕ
digit_of octet = if nat_le 48 octet && nat_le octet 57 then Some (octet - 48) else None

-- the number that three octets write, if they are digits
abbrev pub three_digits : (hundreds tens ones : ℕ) → Option ℕ
three_digits hundreds tens ones = option_and_then (λ a. option_and_then (λ b.
    option_map (λ c. a * 100 + b * 10 + c) (digit_of ones)) (digit_of tens)) (digit_of hundreds)

-- the number that three digits write (RFC 9110, section 15)
abbrev pub status_of_digits : List ℕ → Option ℕ
status_of_digits (hundreds ∷ tens ∷ ones ∷ []) = three_digits hundreds tens ones
status_of_digits octets = None

-- the status of a head, which is its first field
abbrev pub head_status : List Field → Option ℕ
head_status [] = None
head_status (field ∷ others) = status_of_digits field.value

-- the status that an answer gives
abbrev pub status_in : Reply → Option ℕ
status_in (Whole message) = head_status message.head.items
status_in (Refuse message) = head_status message.head.items
status_in (Parts head) = head_status head.items
status_in reply = None

-- how many octets of a body an answer gives at once
abbrev pub octets_at_once : Reply → ℕ
octets_at_once (Whole message) = length message.body.items
octets_at_once (Refuse message) = length message.body.items
octets_at_once reply = 0

-- a status, or else another one
abbrev pub status_or : Option ℕ → Option ℕ → Option ℕ
status_or None other = other
status_or (Some status) other = Some status

-- The status that is noted after an answer: its own, or the one before; of one that has failed, 500
-- where there was none before.
-- rule: hosts (own) Of each request the log has what its handler gave
abbrev pub status_after : Option ℕ → Result Reply HandlerFault → Option ℕ
status_after status (Ok reply) = status_or (status_in reply) status
status_after status (Err fault) = status_or status (Some 500)

-- a number of octets and more of them; no more than 2^64 - 1 are counted
abbrev pub more_octets : (octets more : ℕ) → ℕ
more_octets octets more = min (2 ^ 64 - 1) (octets + more)

-- how many octets of the body are noted after an answer
-- rule: hosts (own) Of each request the log has what its handler gave
abbrev pub octets_after : ℕ → Result Reply HandlerFault → ℕ
octets_after octets (Ok reply) = more_octets octets (octets_at_once reply)
octets_after octets (Err fault) = octets

-- how many octets of the body are noted after a part of an answer
-- rule: hosts (own) Of each request the log has what its handler gave
abbrev pub octets_with_part : ℕ → Result Part HandlerFault → ℕ
octets_with_part octets (Ok (Octets count)) = more_octets octets count
octets_with_part octets (Ok (Last count)) = more_octets octets count
octets_with_part octets part = octets

-- What is noted of a request, with this head, that was answered so.
-- rule: hosts (own) Of each request the log has what its handler gave
pub record IsNoted {W : Type 0} (is_noted : Bool) (list : List Field) (reply : Reply)
    (note : Note W) : Type 0 where
  pub method : note.method.items ≡ noted_of is_noted (value_in (codes ":method") list)
  pub path : note.path.items ≡ noted_of is_noted (value_in (codes ":path") list)
  pub status : note.status ≡ status_in reply
  pub octets : note.octets ≡ octets_at_once reply

-- The request that is noted is the same.
pub record KeepsRequest {W : Type 0} (old new : Note W) : Type 0 where
  pub method : new.method.items ≡ old.method.items
  pub path : new.path.items ≡ old.path.items

-- What is noted after an answer to more of the request.
-- rule: hosts (own) Of each request the log has what its handler gave
pub record NotesReply {W : Type 0} (old : Note W) (reply : Result Reply HandlerFault)
    (new : Note W) : Type 0 where
  pub request : KeepsRequest old new
  pub status : new.status ≡ status_after old.status reply
  pub octets : new.octets ≡ octets_after old.octets reply

-- What is noted after a part of an answer.
-- rule: hosts (own) Of each request the log has what its handler gave
pub record CountsPart {W : Type 0} (old : Note W) (part : Result Part HandlerFault) (new : Note W)
    : Type 0 where
  pub request : KeepsRequest old new
  pub status : new.status ≡ old.status
  pub octets : new.octets ≡ octets_with_part old.octets part
