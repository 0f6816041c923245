-- What is sent and heard on a stream, token by token (RFC 9113, section 8.1).
use Rattle.std.specs.Prelude.{map as each, ◌≡◌, ◌≢◌, ◌⊎◌, ℕ, ◌==◌, ◌&&◌, Bool, true, false}
use Rattle.std.specs.Prelude.{if◌then◌else◌, List, [], ◌∷◌, ◌++◌, length, take, Option, Some, None}
use Rattle.std.specs.Prelude.{is_none}
use Rattle.hpack.specs.declared.types.field.Field.{Field}
use Rattle.h2_frame.specs.Frames.{Data}
use Rattle.h2_block.specs.Grouping.{Item, alone, block}
use Rattle.h2_message.specs.Messages.{SentMessage}
use Rattle.h2_spec_log.specs.Events.{Event, FieldsEvent, DataEvent}
use Rattle.h2_spec_log.specs.Acts.{Act, Answer, Open, SendFields, SendData, Number, Count, Done}

-- a part of a message. Which field block is an interim response, the head or the trailers, the
-- message layer says by its place and fields.
pub data Token : Type 0 where
  -- a field block with these fields, and whether it has END_STREAM
  FieldsToken : (list : List Field) (end : Bool) → Token
  -- an octet of the body
  OctetToken : (octet : ℕ) → Token
  -- the end of the stream (END_STREAM)
  EndToken : Token

-- the end, where it is set
unfoldable pub end_tokens : Bool → List Token
end_tokens true = EndToken ∷ []
end_tokens false = []

-- what a call sends on the stream, by its answer
unfoldable pub tokens_of_call : ℕ → Act → Answer → List Token
tokens_of_call i (Open fields end) (Number id) =
    if id == i then FieldsToken fields end ∷ end_tokens end else []
tokens_of_call i (SendFields id fields end) Done =
    if id == i then FieldsToken fields end ∷ end_tokens end else []
tokens_of_call i (SendData id octets end) (Count count) =
    if id == i then each OctetToken (take count octets)
    ++ end_tokens (end && count == length octets)
    else []
tokens_of_call i act answer = []

-- what was sent on the stream, the first token first; the newest call stands first
unfoldable pub tokens_sent : ℕ → List (Act × Answer) → List Token
tokens_sent i [] = []
tokens_sent i ((act, answer) ∷ calls) = tokens_sent i calls ++ tokens_of_call i act answer

-- What items that were written say of a stream, the first token first: the lists that its field
-- blocks encode, the octets of its DATA, and the end. `lists`: those that all blocks among the
-- items encode, of whatever stream; both have the newest first.
-- rule: 8.1 What was sent on a stream is a prefix of its message
unfoldable pub tokens_written : ℕ → List Item → (lists : List (List Field)) → List Token
tokens_written i [] lists = []
tokens_written i (block stream end octets ∷ items) [] = tokens_written i items []
tokens_written i (block stream end octets ∷ items) (list ∷ lists) =
    tokens_written i items lists
    ++ (if stream == i then FieldsToken list end ∷ end_tokens end else [])
tokens_written i (alone (Data stream end octets pad) ∷ items) lists =
    tokens_written i items lists
    ++ (if stream == i then each OctetToken octets ++ end_tokens end else [])
tokens_written i (alone frame ∷ items) lists = tokens_written i items lists

-- what an event reports of the stream
unfoldable pub tokens_of_event : ℕ → Event → List Token
tokens_of_event i (FieldsEvent id list end) =
    if id == i then FieldsToken list end ∷ end_tokens end else []
tokens_of_event i (DataEvent id octets flow end) =
    if id == i then each OctetToken octets ++ end_tokens end else []
tokens_of_event i event = []

-- what was heard on the stream, the first token first; the newest event stands first
unfoldable pub tokens_heard : ℕ → List Event → List Token
tokens_heard i [] = []
tokens_heard i (event ∷ events) = tokens_heard i events ++ tokens_of_event i event

-- The event is no empty DATA without END_STREAM.
unfoldable pub IsNoEmptyData : Event → Type 0
IsNoEmptyData (DataEvent id octets flow end) = (octets ≢ []) ⊎ (end ≡ true)
IsNoEmptyData event = Unit {0}

-- The first list is a prefix of the second.
abbrev pub IsPrefixOfTokens : (tokens whole : List Token) → Type 0
IsPrefixOfTokens tokens whole = (rest : List Token) × (whole ≡ tokens ++ rest)

-- Whether a message is its head alone: then that has END_STREAM.
abbrev pub is_head_alone : SentMessage → Bool
is_head_alone message = length message.body == 0 && is_none message.trailers

-- the trailers' token; they have END_STREAM
unfoldable pub trailers_tokens : Option (List Field) → List Token
trailers_tokens None = []
trailers_tokens (Some list) = FieldsToken list true ∷ []

-- how a message was given to an end
pub data Form : Type 0 where
  -- whole, by one call
  AtOnce : Form
  -- in parts, and more of it may follow; its body has to have this length, if one is said
  Begun : (length : Option ℕ) → Form
  -- in parts, and its end was given
  Ended : Form

-- what an end was given to say on a stream: a message, and how; of one that was begun, its head and
-- the octets of its body so far
pub record Said : Type 0 where
  pub message : SentMessage
  pub form : Form

-- a message that was given whole
abbrev pub at_once : SentMessage → Said
at_once message = record { message = message; form = AtOnce }

-- Whether the head of a message has END_STREAM: only where it was given whole, and is its head
-- alone.
abbrev pub is_ended_by_head : Form → SentMessage → Bool
is_ended_by_head AtOnce message = is_head_alone message
is_ended_by_head form message = false

-- Whether more of a message may follow.
abbrev pub is_begun : Form → Bool
is_begun (Begun length) = true
is_begun form = false

-- the end, where it was given
abbrev pub given_end : Form → List Token
given_end (Begun length) = []
given_end form = EndToken ∷ []

-- the tokens of what was given
-- rule (law): 8.1 (own) What has come of a message that breaks no rule can be read
unfoldable pub said_tokens : Said → List Token
said_tokens said =
    FieldsToken said.message.head (is_ended_by_head said.form said.message)
    ∷ (each OctetToken said.message.body
    ++ (trailers_tokens said.message.trailers ++ given_end said.form))
