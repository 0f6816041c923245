-- Where the tokens that have come are a prefix of a message's, so are its parts: what each part is
-- follows from the tokens, since the first list is the head and a later one the trailers.
use Rattle.h2_ends.proofs.Names.{◌≡◌, ℕ, Bool, true, false, List, [], ◌∷◌, ◌++◌, Option, None}
use Rattle.h2_ends.proofs.Names.{Some, refl, sym, ap, ◌∙◌, subst, Field, SentMessage, Said, Form}
use Rattle.h2_ends.proofs.Names.{AtOnce, Begun, Ended, given_end, first_broken, interim_rules}
use Rattle.h2_ends.proofs.Names.{broken_by_response, Part, FieldsPart, OctetsPart, Token}
use Rattle.h2_ends.proofs.Names.{FieldsToken, OctetToken, EndToken, IsPrefixOfTokens, final_rules}
use Rattle.h2_ends.proofs.Names.{end_tokens, trailers_tokens, said_tokens, tokens_of_part}
use Rattle.h2_ends.proofs.Names.{tokens_of_parts, tokens_given, sent_response}
use Rattle.std.proofs.lemmas.List.{map-append}
use Rattle.h2_ends.specs.MessageTokens.{MessageToken, ListToken, BodyToken, last_tokens, LastToken}
use Rattle.h2_ends.specs.MessageTokens.{trailers_listed, given_last, parts_of_said, parts_said}
use Rattle.h2_ends.specs.MessageTokens.{IsPrefixOfParts}
use Rattle.std.proofs.Common.{map as each}
use Rattle.h2_message.specs.Lengths.{broken_by_head}
use Rattle.h2_message.specs.declared.reading.Reads.TheVariants.{Responses}
use Rattle.h2_message.proofs.ReadingRules.{some_not_none, not_both}
use Rattle.h2_message.proofs.ReadingWhole.{one_sum}
use Rattle.h2_ends.proofs.MessageTokensPlaced.{place_where, parts_placed}
use Rattle.h2_message.specs.declared.reading.Place.TheVariants as places

-- what a token is after a final head
abbrev pub token_in_body : Token → MessageToken
token_in_body (FieldsToken list end) = ListToken places.Trailers list
token_in_body (OctetToken octet) = BodyToken octet
token_in_body EndToken = LastToken

-- what the tokens of a message are, from its final head on
abbrev pub tokens_placed : List Token → List MessageToken
tokens_placed [] = []
tokens_placed (FieldsToken list end ∷ tokens) =
    ListToken places.Head list ∷ each token_in_body tokens
tokens_placed (OctetToken octet ∷ tokens) = BodyToken octet ∷ each token_in_body tokens
tokens_placed (EndToken ∷ tokens) = LastToken ∷ each token_in_body tokens

-- The first of the tokens, if there are any, is a final head where one is due.
abbrev pub HeadFirst : (server : Bool) → List Token → Type 0
HeadFirst server [] = Unit {0}
HeadFirst server (FieldsToken list end ∷ tokens) = place_where false server list ≡ places.Head
HeadFirst server (OctetToken octet ∷ tokens) = ⊥
HeadFirst server (EndToken ∷ tokens) = ⊥

-- The end of a part is the end there,
end_placed : (end : Bool) → each token_in_body (end_tokens end) ≡ last_tokens end
unfolding end_tokens last_tokens
end_placed true = refl
end_placed false = refl

-- and octets of a body are those.
octets_placed : (octets : List ℕ)
    → each token_in_body (each OctetToken octets) ≡ each BodyToken octets
octets_placed [] = refl
octets_placed (octet ∷ octets) =
    ap (λ (tokens : List MessageToken). BodyToken octet ∷ tokens) (octets_placed octets)

module _ (server : Bool) where
  -- After a final head parts are what their tokens are there.
  placed_in_body : (parts : List (Part × Bool))
      → parts_placed true server parts ≡ each token_in_body (tokens_of_parts parts)
  unfolding parts_placed tokens_of_parts tokens_of_part
  placed_in_body [] = refl
  placed_in_body ((FieldsPart list, end) ∷ parts) =
      rw (map-append, end_placed end, placed_in_body parts) refl
  placed_in_body ((OctetsPart octets, end) ∷ parts) =
      rw (map-append, map-append, octets_placed octets, end_placed end, placed_in_body parts) refl

  -- So it is with all parts of a message, where the first token is its final head.
  parts_by_tokens : (parts : List (Part × Bool)) → HeadFirst server (tokens_of_parts parts)
      → parts_placed false server parts ≡ tokens_placed (tokens_of_parts parts)
  unfolding parts_placed tokens_of_parts tokens_of_part end_tokens last_tokens
  parts_by_tokens [] first = refl
  parts_by_tokens ((FieldsPart list, true) ∷ parts) first = rw (first, placed_in_body parts) refl
  parts_by_tokens ((FieldsPart list, false) ∷ parts) first = rw (first, placed_in_body parts) refl
  parts_by_tokens ((OctetsPart (octet ∷ octets), end) ∷ parts) first = absurd first
  parts_by_tokens ((OctetsPart [], true) ∷ parts) first = absurd first
  parts_by_tokens ((OctetsPart [], false) ∷ parts) first = parts_by_tokens parts first

-- Trailers are listed as their token is.
trailers_placed : (trailers : Option (List Field))
    → each token_in_body (trailers_tokens trailers) ≡ trailers_listed trailers
unfolding trailers_tokens trailers_listed
trailers_placed None = refl
trailers_placed (Some list) = refl

-- So is the end, where it was given.
given_end_placed : (form : Form) → each token_in_body (given_end form) ≡ given_last form
given_end_placed AtOnce = refl
given_end_placed (Begun length) = refl
given_end_placed Ended = refl

-- So what was given has the parts that its tokens are,
parts_given : (said : Said) → parts_of_said said ≡ tokens_placed (said_tokens said)
unfolding parts_of_said said_tokens
parts_given said =
    rw (
      map-append,
      octets_placed said.message.body,
      map-append,
      trailers_placed said.message.trailers,
      given_end_placed said.form,
    ) refl

-- whether something was given or nothing.
said_placed : (given : Option Said) → parts_said given ≡ tokens_placed (tokens_given given)
unfolding parts_said tokens_given
said_placed None = refl
said_placed (Some said) = parts_given said

-- The first token of what was given is its head.
head_first : (server : Bool) (given : Option Said)
    → ((said : Said) → given ≡ Some said
    → place_where false server said.message.head ≡ places.Head)
    → HeadFirst server (tokens_given given)
unfolding tokens_given said_tokens
head_first server None final = tt
head_first server (Some said) final = final said refl

-- So is the first token of what begins it.
first_begins : (server : Bool) (tokens rest : List Token) → HeadFirst server (tokens ++ rest)
    → HeadFirst server tokens
first_begins server [] rest first = tt
first_begins server (FieldsToken list end ∷ tokens) rest first = first
first_begins server (OctetToken octet ∷ tokens) rest first = first
first_begins server (EndToken ∷ tokens) rest first = first

-- What begins the tokens begins what they are.
placed_begins : (tokens rest : List Token)
    → IsPrefixOfParts (tokens_placed tokens) (tokens_placed (tokens ++ rest))
placed_begins [] rest = (tokens_placed rest, refl)
placed_begins (FieldsToken list end ∷ tokens) rest =
    (each token_in_body rest, rw (map-append token_in_body tokens rest) refl)
placed_begins (OctetToken octet ∷ tokens) rest =
    (each token_in_body rest, rw (map-append token_in_body tokens rest) refl)
placed_begins (EndToken ∷ tokens) rest =
    (each token_in_body rest, rw (map-append token_in_body tokens rest) refl)

-- Where the tokens that have come are a prefix of a message's, the parts are one of its parts,
pub parts_prefix : (server : Bool) (parts : List (Part × Bool)) (given : Option Said)
    → ((said : Said) → given ≡ Some said
    → place_where false server said.message.head ≡ places.Head)
    → IsPrefixOfTokens (tokens_of_parts parts) (tokens_given given)
    → IsPrefixOfParts (parts_placed false server parts) (parts_said given)
parts_prefix server parts given final (rest, is) =
    let tokens = tokens_of_parts parts in
    let first = subst (HeadFirst server) is (head_first server given final) in
    rw (
      parts_by_tokens server parts (first_begins server tokens rest first),
      said_placed given,
      is,
    )
    (placed_begins tokens rest)

-- and where they are the message's, the parts are its parts.
pub parts_whole : (server : Bool) (parts : List (Part × Bool)) (given : Option Said)
    → ((said : Said) → given ≡ Some said
    → place_where false server said.message.head ≡ places.Head)
    → tokens_of_parts parts ≡ tokens_given given
    → parts_placed false server parts ≡ parts_said given
parts_whole server parts given final is =
    let first : HeadFirst server (tokens_of_parts parts) = rw is (head_first server given final) in
    parts_by_tokens server parts first ∙ ap tokens_placed is ∙ sym (said_placed given)

-- A head that breaks no rule of a response is a final one,
pub head_final : (to_head : Bool) (head : List Field)
    → broken_by_head (Responses to_head) head ≡ None
    → place_where false false head ≡ places.Head
unfolding final_rules
head_final to_head head well =
    rw (some_not_none (first_broken (interim_rules head)) (not_both head well)) refl

-- and so is that of a response that may be sent.
pub response_final : (to_head : Bool) (message : SentMessage)
    → broken_by_response to_head message ≡ None
    → place_where false false message.head ≡ places.Head
response_final to_head message well =
    head_final to_head message.head
    (sent_response to_head message (message.body ∷ []) well (one_sum message.body)).head
