-- A message, part by part, as one end is given it and as the other hands it out (RFC 9113, section
-- 8.1): interim heads, the head, octets of the body, trailers, the end.
use Rattle.std.specs.Prelude.{map as each, ◌≡◌, ℕ, ◌==◌, Bool, true, false, if◌then◌else◌, List}
use Rattle.std.specs.Prelude.{[], ◌∷◌, ◌++◌, Option, Some, None}
use Rattle.hpack.specs.declared.types.field.Field.{Field}
use Rattle.h2_message.specs.declared.reading.Place.{Place}
use Rattle.h2_message.specs.declared.reading.Place.TheVariants as places
use Rattle.h2_laws_pair.specs.Tokens.{Form, Begun, Said}
use Rattle.h2_ends.specs.Ends.{Handed, InterimHanded, HeadHanded, BodyHanded}
use Rattle.h2_ends.specs.Ends.{TrailersHanded, Passed}

pub data MessageToken : Type 0 where
  -- a list of fields, and what it is: an interim head, the head, or trailers
  ListToken : (place : Place) (list : List Field) → MessageToken
  -- an octet of the body
  BodyToken : (octet : ℕ) → MessageToken
  -- nothing follows
  LastToken : MessageToken

-- the end, where it is set
unfoldable pub last_tokens : Bool → List MessageToken
last_tokens true = LastToken ∷ []
last_tokens false = []

-- the trailers, if there are any
unfoldable pub trailers_listed : Option (List Field) → List MessageToken
trailers_listed None = []
trailers_listed (Some list) = ListToken places.Trailers list ∷ []

-- the end, where it was given
abbrev pub given_last : Form → List MessageToken
given_last (Begun length) = []
given_last form = LastToken ∷ []

-- the parts of what an end is given to say: it sends no interim heads
-- rule (law): 8.1 (own) What has come of a message that breaks no rule can be read
unfoldable pub parts_of_said : Said → List MessageToken
parts_of_said said =
    ListToken places.Head said.message.head ∷ (each BodyToken said.message.body
    ++ (trailers_listed said.message.trailers ++ given_last said.form))

-- the same of what was accepted for a stream, or none
unfoldable pub parts_said : Option Said → List MessageToken
parts_said None = []
parts_said (Some said) = parts_of_said said

-- what was handed out on a stream with one event
-- rule: 8.1 (own) What is handed out of a stream is what was reported, in order
unfoldable pub parts_heard_in : ℕ → Handed → List MessageToken
parts_heard_in i (InterimHanded id list) =
    if id == i then ListToken places.Interim list ∷ [] else []
parts_heard_in i (HeadHanded id list end) =
    if id == i then ListToken places.Head list ∷ last_tokens end else []
parts_heard_in i (BodyHanded id octets end) =
    if id == i then each BodyToken octets ++ last_tokens end else []
parts_heard_in i (TrailersHanded id list) =
    if id == i then ListToken places.Trailers list ∷ LastToken ∷ [] else []
parts_heard_in i (Passed event) = []

-- what was handed out on a stream, the first part first; the newest event stands first
-- rule: 8.1 (own) What is handed out of a stream is what was reported, in order
unfoldable pub parts_heard : ℕ → List Handed → List MessageToken
parts_heard i [] = []
parts_heard i (one ∷ handed) = parts_heard i handed ++ parts_heard_in i one

-- The first list is a prefix of the second.
abbrev pub IsPrefixOfParts : (parts whole : List MessageToken) → Type 0
IsPrefixOfParts parts whole = (rest : List MessageToken) × (whole ≡ parts ++ rest)
