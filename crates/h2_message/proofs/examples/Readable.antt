-- What is readable: the beginning of a whole message, and nothing else.
use Rattle.h2_message.proofs.Names.{ℕ, Bool, true, false, List, [], ◌∷◌, ◌++◌, map, Some, ◌≡◌, refl}
use Rattle.h2_message.proofs.Names.{sym, ap, ◌∙◌, false≢true, Field, Reads, Responses, Part}
use Rattle.h2_message.proofs.Names.{FieldsPart, OctetsPart, ReadMessage, IsWellRead, IsReadable}
use Rattle.h2_message.proofs.Names.{message_parts, final_parts, trailers_parts, ended}
use Rattle.h2_message.proofs.examples.Words.{computing, answering, body_of}
use Rattle.h2_message.proofs.examples.Readings.{block, data_of, five, trailer}

-- a response of all parts
abbrev pub whole : ReadMessage
whole = record {
  interims = answering "103" ∷ answering "100" ∷ [];
  head = answering "200" ++ five;
  data_parts = body_of 2 ∷ [] ∷ body_of 3 ∷ [];
  trailers = Some trailer;
}

-- its parts: the last one alone has END_STREAM (RFC 9113, section 8.1)
parts_of_the_whole :
    message_parts whole
    ≡ block (answering "103") false ∷ block (answering "100") false
    ∷ block (answering "200" ++ five) false ∷ data_of 2 false ∷ data_of 0 false
    ∷ data_of 3 false ∷ block trailer true ∷ []
unfolding computing
parts_of_the_whole = refl

-- It is well read by a client.
-- rule: 8.1 (own) A part is read where the parts so far begin a well-formed message
pub whole_is_well : IsWellRead (Responses false) whole
unfolding computing
whole_is_well =
    record { interims = (refl, (refl, tt)); head = refl; trailers = refl; declared = refl }

-- So its first parts are readable, before DATA and within it.
-- rule (best): 8.1 (own) A part is read where the parts so far begin a well-formed message
reads_its_beginning : IsReadable (Responses false) (
    block (answering "103") false ∷ block (answering "100") false
    ∷ block (answering "200" ++ five) false ∷ data_of 2 false ∷ [])
unfolding computing
reads_its_beginning = record {
  message = whole;
  more = data_of 0 false ∷ data_of 3 false ∷ block trailer true ∷ [];
  well = whole_is_well;
  begins = refl;
}

-- Whether parts begin with a field block.
unfoldable pub begin_with_fields : List (Part × Bool) → Bool
begin_with_fields [] = false
begin_with_fields ((FieldsPart list, end) ∷ parts) = true
begin_with_fields ((OctetsPart octets, end) ∷ parts) = false

-- a final head begins its parts
pub heads_begin : (list : List Field) (parts : List Part)
    → begin_with_fields (ended (FieldsPart list ∷ parts)) ≡ true
unfolding begin_with_fields ended
heads_begin list [] = refl
heads_begin list (part ∷ parts) = refl

-- and interim ones come before it
pub interims_begin : (interims : List (List Field)) (list : List Field) (parts : List Part)
    → begin_with_fields (map (λ fields. (FieldsPart fields, false)) interims
    ++ ended (FieldsPart list ∷ parts)) ≡ true
unfolding begin_with_fields
interims_begin [] list parts = heads_begin list parts
interims_begin (interim ∷ interims) list parts = refl

-- A message begins with a field block.
pub messages_begin : (message : ReadMessage) → begin_with_fields (message_parts message) ≡ true
unfolding message_parts final_parts
messages_begin message =
    interims_begin message.interims message.head
    (map OctetsPart message.data_parts ++ trailers_parts message.trailers)

-- DATA before the final head is not readable (M12), also without octets.
-- rule: 8.1 DATA before the final head breaks M12
pub data_first_is_not_readable : (reads : Reads) (octets : List ℕ) (end : Bool)
    (more : List (Part × Bool)) → IsReadable reads ((OctetsPart octets, end) ∷ more) → ⊥
unfolding begin_with_fields
data_first_is_not_readable reads octets end more readable =
    absurd (false≢true (ap begin_with_fields (sym readable.begins)
    ∙ messages_begin readable.message))
