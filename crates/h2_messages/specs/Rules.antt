-- The line of a part of a message that an end has refused (RFC 9113, section 8.1.1).
use Rattle.std.specs.Prelude.{ℕ, ◌==◌, if◌then◌else◌, List, [], ◌++◌, codes, decimal, Option, Some}
use Rattle.std.specs.Prelude.{None}
use Rattle.h2_message.specs.declared.malformed.Malformed.{Malformed}
use Rattle.h2_message.specs.declared.malformed.Malformed.TheVariants as rules

-- the number of a rule of messages and its name
-- rule: messages (own) A part that is refused has a line with its stream and its rule
abbrev pub rule_words : Malformed → List ℕ
rule_words rules.BadName = codes "M1 BadName"
rule_words rules.BadValue = codes "M2 BadValue"
rule_words rules.PseudoPlace = codes "M3 PseudoPlace"
rule_words rules.PseudoUnknown = codes "M4 PseudoUnknown"
rule_words rules.PseudoTwice = codes "M5 PseudoTwice"
rule_words rules.PseudoMissing = codes "M6 PseudoMissing"
rule_words rules.BadMethod = codes "M7 BadMethod"
rule_words rules.BadPath = codes "M8 BadPath"
rule_words rules.BadStatus = codes "M9 BadStatus"
rule_words rules.ConnectionField = codes "M10 ConnectionField"
rule_words rules.BadLength = codes "M11 BadLength"
rule_words rules.BadOrder = codes "M12 BadOrder"

-- a part that was refused: its stream, and the rule that it breaks
abbrev pub RefusedPart : Type 0
RefusedPart = ℕ × Malformed

-- The part that a call has refused, by the last one that the end has refused before it and after
-- it: the latter, where that is of another stream. Of one stream a part is refused once, since the
-- stream is over then.
-- rule: messages (own) A part that is refused has a line with its stream and its rule
abbrev pub refused_in : (before after : Option RefusedPart) → Option RefusedPart
refused_in before None = None
refused_in None (Some part) = Some part
refused_in (Some earlier) (Some part) = if earlier.0 == part.0 then None else Some part

-- the line of a part that was refused: its stream, the number of the rule and its name
-- rule: messages (own) A part that is refused has a line with its stream and its rule
abbrev pub refusal_lines : Option RefusedPart → List ℕ
refusal_lines None = []
refusal_lines (Some (id, rule)) =
    codes "malformed " ++ decimal id ++ codes " " ++ rule_words rule ++ codes "\n"
