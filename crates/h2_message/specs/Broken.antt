-- The rule for which a part of a message is refused as it is read (RFC 9113, section 8).
-- contract: h2_message::Reading::broken_by_fields
use Rattle.std.specs.Prelude.{Bool, true, not, ◌||◌, ◌&&◌, if◌then◌else◌, List, [], ◌∷◌}
use Rattle.std.specs.Prelude.{◌++◌, length, Option, Some, None}
use Rattle.hpack.specs.declared.types.field.Field.{Field}
use Rattle.h2_message.specs.declared.malformed.Malformed.{Malformed}
use Rattle.h2_message.specs.declared.malformed.Malformed.TheVariants.{BadLength, BadOrder}
use Rattle.h2_message.specs.declared.reading.Reads.{Reads}
use Rattle.h2_message.specs.declared.reading.Reads.TheVariants.{Requests, Responses}
use Rattle.h2_message.specs.declared.reading.Phase.{Phase}
use Rattle.h2_message.specs.declared.reading.Phase.TheVariants.{AtHead, InBody, AtEnd}
use Rattle.h2_message.specs.Fields.{has_bad_status, is_interim}
use Rattle.h2_message.specs.Lengths.{breaks_length}
use Rattle.h2_message.specs.Messages.{first_broken, interim_rules, trailer_rules}
use Rattle.h2_message.specs.Reading.{Part, FieldsPart, OctetsPart, final_rules, compared_length}
use Rattle.h2_message.specs.Phases.{is_short, phase_after_all}

-- Whether the status is that of an interim response (1xx, but not 101).
abbrev pub is_status_interim : List Field → Bool
is_status_interim list = not (has_bad_status list || not (is_interim list))

-- The rules of a final head: those of its fields (M1 to M11), and M11 where it ends a message whose
-- `content-length` says that octets come.
-- rule: 8.1.1 (own) A part that is refused breaks a rule, the least of which is named
abbrev pub rules_of_final : Reads → List Field → (end : Bool) → List (Bool × Malformed)
rules_of_final reads list end =
    final_rules reads list ++ (end && is_short (compared_length reads list), BadLength) ∷ []

-- The rules of a head that comes next. An interim response has those of its fields (M1 to M10), and
-- M12 where it has END_STREAM.
-- rule: 8.1.1 (own) A part that is refused breaks a rule, the least of which is named
unfoldable pub rules_of_head : Reads → List Field → (end : Bool) → List (Bool × Malformed)
rules_of_head Requests list end = rules_of_final Requests list end
rules_of_head (Responses to_head) list end =
    if is_status_interim list then interim_rules list ++ (end, BadOrder) ∷ []
    else rules_of_final (Responses to_head) list end

-- The rules of a part that comes in this phase, in order. Before the head DATA breaks M12. After it
-- a field block has the rules of trailers (M1, M2, M3 and M10), M11 where it ends the message and
-- octets of the body are still to come, and M12 without END_STREAM; and DATA breaks M11 that is
-- longer than what is to come, or, with END_STREAM, shorter. After the end any part breaks M12, and
-- nothing else of it is looked at.
-- rule: 8.1.1 (own) A part that is refused breaks a rule, the least of which is named
unfoldable pub rules_of_part : Reads → Phase → (Part × Bool) → List (Bool × Malformed)
rules_of_part reads AtHead (FieldsPart list, end) = rules_of_head reads list end
rules_of_part reads AtHead (OctetsPart octets, end) = (true, BadOrder) ∷ []
rules_of_part reads (InBody left) (FieldsPart list, end) =
    trailer_rules list ++ (end && is_short left, BadLength) ∷ (not end, BadOrder) ∷ []
rules_of_part reads (InBody left) (OctetsPart octets, end) =
    (breaks_length left (length octets) end, BadLength) ∷ []
rules_of_part reads AtEnd part = (true, BadOrder) ∷ []

-- the least rule that a part breaks in this phase
-- rule: 8.1.1 (own) A part that is refused breaks a rule, the least of which is named
abbrev pub broken_at : Reads → Phase → (Part × Bool) → Option Malformed
broken_at reads phase part = first_broken (rules_of_part reads phase part)

-- the same where what came before has led to a phase
-- rule: 8.1.1 (own) A part that is refused breaks a rule, the least of which is named
unfoldable pub broken_in : Reads → Option Phase → (Part × Bool) → Option Malformed
broken_in reads None part = None
broken_in reads (Some phase) part = broken_at reads phase part

-- the least rule that a part breaks after these parts, which were taken; none where it is taken too
-- rule: 8.1.1 (own) A part that is refused breaks a rule, the least of which is named
abbrev pub broken_after : Reads → (parts : List (Part × Bool)) → (Part × Bool) → Option Malformed
broken_after reads parts part = broken_in reads (phase_after_all reads (Some AtHead) parts) part
