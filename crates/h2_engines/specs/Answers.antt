-- What a server answers a request with: what it asked.
use Rattle.std.specs.Prelude.{ℕ, nat_lt, Bool, true, false, List, [], ◌∷◌}
use Rattle.std.specs.Prelude.{◌++◌, length, codes, decimal, Option, Some, None, ◌≡◌}
use Rattle.hpack.specs.declared.types.field.Field.{Field}
use Rattle.h2_message.specs.Fields.{method_of, path_of}
use Rattle.h2_message.specs.Messages.{SentMessage, asks_head, plain_field}
use Rattle.h2_message.specs.Reading.{Part, FieldsPart, OctetsPart}
use Rattle.h2_engines.specs.declared.request.Request.{Request}

-- the octets of a body, from the parts of a request after its head
unfoldable pub body_in : List (Part × Bool) → List ℕ
body_in [] = []
body_in ((OctetsPart octets, end) ∷ parts) = octets ++ body_in parts
body_in ((FieldsPart trailers, end) ∷ parts) = body_in parts

-- what a request has asked: its method, a space, its path, a line end and its body
abbrev pub text_of : (head : List Field) → (body : List ℕ) → List ℕ
text_of head body = (method_of head ++ 32 ∷ path_of head ++ 10 ∷ []) ++ body

-- an answer with a text; to HEAD it has neither a body nor `content-length`
-- rule: engines (own) An answer to HEAD has neither body nor content-length
unfoldable pub answer_with : (text : List ℕ) → (to_head : Bool) → SentMessage
answer_with text true = record {
  head = plain_field (codes ":status") (codes "200") ∷ [];
  body = [];
  trailers = None;
}
answer_with text false = record {
  head =
      plain_field (codes ":status") (codes "200")
      ∷ plain_field (codes "content-length") (decimal (length text)) ∷ [];
  body = text;
  trailers = None;
}

-- what a request is answered with, by its parts, the first one first
-- rule: engines (own) An answer to HEAD has neither body nor content-length
unfoldable pub answer_to : List (Part × Bool) → Option SentMessage
answer_to ((FieldsPart head, end) ∷ parts) =
    Some (answer_with (text_of head (body_in parts)) (asks_head head))
answer_to parts = None

-- the most octets of a request's body (own)
abbrev pub greatest_body : ℕ
greatest_body = 1048576

-- the octets of the body of a request, by its parts
unfoldable pub body_of_parts : List (Part × Bool) → List ℕ
body_of_parts ((FieldsPart head, end) ∷ parts) = body_in parts
body_of_parts parts = []

-- Whether the body of a request has more octets than a server takes.
-- rule: engines (own) A request of more than 1,048,576 octets is ENHANCE_YOUR_CALM
unfoldable pub is_too_large_body : List (Part × Bool) → Bool
is_too_large_body parts = nat_lt greatest_body (length (body_of_parts parts))

-- What is kept of a request, of which these parts have come.
pub record IsRequest (head : List Field) (parts : List (Part × Bool)) (request : Request) : Type 0
  where
    pub text : request.text.items ≡ text_of head (body_in parts)
    pub start : request.start ≡ length (text_of head [])
    pub to_head : request.to_head ≡ asks_head head
