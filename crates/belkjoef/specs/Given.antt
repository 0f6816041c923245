-- Fields and messages that C gives, and what is done with copies of them.
use Rattle.std.specs.Prelude.{◌≡◌, ◌⊎◌, ◌<◌, ◌==◌, ℕ, ℤ, not, List, map as each, None}
use Rattle.std.specs.Prelude.{Result, Ok, Err}
use Rattle.h2_frame.specs.declared.code.Code.{Code}
use Rattle.h2_frame.specs.Codes.{code_number}
use Rattle.h2_spec_log.specs.declared.role.Role.{Role}
use Rattle.h2_spec_log.specs.declared.role.Role.TheVariants as roles
use Rattle.hpack.specs.declared.types.field.Field.{Field}
use Rattle.h2_message.specs.declared.message.Message.{Message}
use Rattle.h2_message.specs.Messages.{SentMessage}
use Rattle.h2_ends.specs.declared.end.End.{End}
use Rattle.h2_ends.specs.declared.refusal.EndRefusal.{EndRefusal}
use Rattle.h2_ends.specs.Represents.{without_message, EndRequests, EndResponds, EndBegins}
use Rattle.h2_ends.specs.Represents.{EndBeginsAnswer, EndSendsTrailers, EndPumpsSome}
use Rattle.belkjoef.specs.declared.fields.BjField.{BjField}
use Rattle.belkjoef.specs.declared.held.Held.{Held}
use Rattle.belkjoef.specs.Helds.{side_role}
use Rattle.belkjoef.specs.Numbers.{other_role, no_memory, bad_code, end_answer_number}

abbrev pub field_given : BjField → Field
field_given field = record {
  name = field.name.now;
  value = field.value.now;
  sensitive = not (field.sensitive == 0);
}

-- rule: c (own) What C gives is copied; without memory nothing has changed
abbrev pub fields_given : List BjField → List Field
fields_given fields = each field_given fields

-- a message of this head and this body, without trailers
-- rule: c (own) What C gives is copied; without memory nothing has changed
abbrev pub message_given : List BjField → List ℕ → SentMessage
message_given head body = record { head = fields_given head; body = body; trailers = None }

-- Memory was refused for the copies, and nothing has changed; or else this is done.
-- rule: c (own) What C gives is copied; without memory nothing has changed
abbrev pub Copies : {A : Type 0} → ℤ → (A → A → Type 0) → A → A → Type 0
Copies answer Does old new = ((answer ≡ no_memory) × (new ≡ old)) ⊎ Does old new

-- Where the end is of the other role the answer is that, and nothing has changed; else this is
-- done.
-- rule: c (own) A call of the other role is refused, and nothing has changed
abbrev pub IfRole : (wanted role : Role) → ℤ → (Held → Held → Type 0) → Held → Held → Type 0
IfRole roles.Client roles.Client answer Does old new = Does old new
IfRole roles.Server roles.Server answer Does old new = Does old new
IfRole wanted role answer Does old new = (answer ≡ other_role) × (new ≡ old)

abbrev pub AtServer : ℤ → (Held → Held → Type 0) → Held → Held → Type 0
AtServer answer Does old new = IfRole roles.Server (side_role old.side) answer Does old new

abbrev pub AtClient : ℤ → (Held → Held → Type 0) → Held → Held → Type 0
AtClient answer Does old new = IfRole roles.Client (side_role old.side) answer Does old new

-- 0, or the number of the refusal with which the message was handed back
abbrev pub reply_number : {A : Type 0} → Result A (Message × EndRefusal) → ℤ
reply_number outcome = end_answer_number (without_message outcome)

-- the number of the stream, or what stood there
abbrev pub stream_or : {E : Type 0} → ℕ → Result ℕ E → ℕ
stream_or before (Ok id) = id
stream_or before (Err refusal) = before

abbrev pub RespondsWith : ℕ → SentMessage → End → Result (Unit {0}) (Message × EndRefusal) → End
    → Type 0
RespondsWith id message old outcome new = EndResponds old id message outcome new

abbrev pub RequestsWith : SentMessage → End → Result ℕ (Message × EndRefusal) → End → Type 0
RequestsWith message old outcome new = EndRequests old message outcome new

abbrev pub BeginsAnswerWith : ℕ → List Field → End → Result (Unit {0}) EndRefusal → End → Type 0
BeginsAnswerWith id head old outcome new = EndBeginsAnswer old id head outcome new

abbrev pub BeginsWith : List Field → End → Result ℕ EndRefusal → End → Type 0
BeginsWith head old outcome new = EndBegins old head outcome new

abbrev pub TrailsWith : ℕ → List Field → End → Result (Unit {0}) EndRefusal → End → Type 0
TrailsWith id list old outcome new = EndSendsTrailers old id list outcome new

abbrev pub PumpsPass : ℕ → End → Result ℕ EndRefusal → End → Type 0
PumpsPass most old outcome new = EndPumpsSome old most outcome new

-- Where the number is that of an error code this is done with it; a number above 13 is of none,
-- and nothing has changed.
-- rule: c (own) A call of C's is that of the end in its place
abbrev pub WithCode : {A : Type 0} → ℕ → ℤ → (Code → A → A → Type 0) → A → A → Type 0
WithCode number answer Does old new =
    ((13 < number) × (answer ≡ bad_code) × (new ≡ old))
    ⊎ ((code : Code) × (code_number code ≡ number) × Does code old new)
