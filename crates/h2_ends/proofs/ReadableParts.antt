-- What was handed out of a message that was sent can be read, in whatever pieces its body came.
use Rattle.h2_ends.proofs.Names
use Names.{◌≡◌, ◌≢◌, ℕ, Bool, true, false, List, [], ◌∷◌, ◌++◌, length, Option, Some, None, refl}
use Names.{sym, ap, ◌∙◌, inl, inr, append_assoc, append-nil, arith, AllByRecursion, Field, Reads}
use Names.{SentMessage, Part, FieldsPart, OctetsPart, Token, FieldsToken, OctetToken, EndToken}
use Names.{IsPrefixOfTokens, end_tokens, trailers_tokens, tokens_of_part, tokens_of_parts}
use Names.{IsReadable, length-append, body_parts, ended_more}
use Rattle.h2_message.specs.Reading.{ended, message_parts, final_parts, trailers_parts, as_read}
use Rattle.h2_message.specs.Reading.{IsWellRead}
use Rattle.h2_ends.specs.Ends.{IsNoEmptyPart}
use Rattle.std.proofs.Common.{map as each, sum_by}
use Rattle.std.proofs.lemmas.List.Sums.{sum_by-cons}
use Rattle.h2_message.proofs.ReadingWhole.{one_sum as one_piece}

-- the tokens after a head, of this body and these trailers
abbrev pub rest_tokens : List ℕ → Option (List Field) → List Token
rest_tokens body trailers = each OctetToken body ++ (trailers_tokens trailers ++ EndToken ∷ [])

-- the tokens of a message whose head has END_STREAM or not; where it hasn't and there are neither
-- a body nor trailers, DATA ends the message
abbrev pub whole_tokens : SentMessage → (end : Bool) → List Token
whole_tokens message end =
    FieldsToken message.head end ∷ rest_tokens message.body message.trailers

-- Octets that begin these tokens begin the body; the tokens after them are those of its rest.
octets_begin : (octets body : List ℕ) (trailers : Option (List Field)) (tail : List Token)
    → rest_tokens body trailers ≡ each OctetToken octets ++ tail
    → (left : List ℕ) × (body ≡ octets ++ left) × (rest_tokens left trailers ≡ tail)
unfolding trailers_tokens
octets_begin [] body trailers tail is = (body, refl, is)
octets_begin (octet ∷ octets) [] None tail is = cc
octets_begin (octet ∷ octets) [] (Some fields) tail is = cc
octets_begin (octet ∷ octets) (first ∷ body) trailers tail is =
    let same : OctetToken first ≡ OctetToken octet = cc in
    let rest : rest_tokens body trailers ≡ each OctetToken octets ++ tail = cc in
    let more = octets_begin octets body trailers tail rest in
    (more.0, cc, more.2)

-- Where the end comes next, there is no body and there are no trailers,
ends_here : (body : List ℕ) (trailers : Option (List Field)) (tail : List Token)
    → rest_tokens body trailers ≡ EndToken ∷ tail
    → (body ≡ []) × (trailers ≡ None) × (tail ≡ [])
unfolding trailers_tokens
ends_here [] None tail is = (refl, refl, cc)
ends_here [] (Some fields) tail is = cc
ends_here (octet ∷ body) trailers tail is = cc

-- and where a field block does, there is no body, and it is the trailers, which end.
trailers_here : (body : List ℕ) (trailers : Option (List Field)) (list : List Field) (end : Bool)
    (tail : List Token) → rest_tokens body trailers ≡ FieldsToken list end ∷ tail
    → (body ≡ []) × (trailers ≡ Some list) × (end ≡ true) × (EndToken ∷ [] ≡ tail)
unfolding trailers_tokens
trailers_here [] None list end tail is = cc
trailers_here [] (Some fields) list end tail is =
    let same : FieldsToken fields true ≡ FieldsToken list end = cc in (refl, cc, cc, cc)
trailers_here (octet ∷ body) trailers list end tail is = cc

-- Parts that say something have tokens.
says_none : (parts : List (Part × Bool)) (tail : List Token)
    → AllByRecursion IsNoEmptyPart parts → tokens_of_parts parts ++ tail ≡ [] → parts ≡ []
unfolding IsNoEmptyPart tokens_of_parts tokens_of_part end_tokens
says_none [] tail say none = refl
says_none ((FieldsPart list, end) ∷ parts) tail say none = cc
says_none ((OctetsPart (octet ∷ octets), end) ∷ parts) tail say none = cc
says_none ((OctetsPart [], true) ∷ parts) tail say none = cc
says_none ((OctetsPart [], false) ∷ parts) tail (inl some, say) none = absurd (some refl)
says_none ((OctetsPart [], false) ∷ parts) tail (inr wrong, say) none = cc

-- The body came in pieces, and these parts are the first of what is read after the head.
record BeginsRest (body : List ℕ) (trailers : Option (List Field)) (parts : List (Part × Bool))
    : Type 0 where
  pub pieces : List (List ℕ)
  pub more : List (Part × Bool)
  pub whole : sum_by length pieces ≡ length body
  pub some : body_parts pieces trailers ≢ []
  pub begins : ended (body_parts pieces trailers) ≡ parts ++ more

none_yet : (body : List ℕ) (trailers : Option (List Field)) → BeginsRest body trailers []
none_yet body trailers =
    record {
      pieces = body ∷ [];
      more = ended (body_parts (body ∷ []) trailers);
      whole = one_piece body;
      some = λ none. cc;
      begins = refl;
    }

-- or the next part is the trailers, which end the message,
ended_by_trailers : (body : List ℕ) (trailers : Option (List Field)) (list : List Field)
    (parts : List (Part × Bool)) → body ≡ [] → trailers ≡ Some list → parts ≡ []
    → BeginsRest body trailers ((FieldsPart list, true) ∷ parts)
unfolding trailers_parts ended
ended_by_trailers body trailers list parts empty are last =
    record {
      pieces = [];
      more = [];
      whole = ap length (sym empty);
      some = rw are (λ none. cc);
      begins = rw (are, last) refl;
    }

-- the last octets of the body, which do,
ended_by_octets : (body : List ℕ) (trailers : Option (List Field)) (octets : List ℕ)
    (parts : List (Part × Bool)) → body ≡ octets → trailers ≡ None → parts ≡ []
    → BeginsRest body trailers ((OctetsPart octets, true) ∷ parts)
unfolding trailers_parts ended
ended_by_octets body trailers octets parts all are last =
    record {
      pieces = octets ∷ [];
      more = [];
      whole = one_piece octets ∙ ap length (sym all);
      some = λ none. cc;
      begins = rw (are, last) refl;
    }

-- or octets after which there are more parts.
more_octets : (body : List ℕ) (trailers : Option (List Field)) (octets left : List ℕ)
    (parts : List (Part × Bool)) → body ≡ octets ++ left → BeginsRest left trailers parts
    → BeginsRest body trailers ((OctetsPart octets, false) ∷ parts)
more_octets body trailers octets left parts split rest =
    let sum = sum_by-cons length octets rest.pieces in
    let both = ap length split ∙ length-append octets left in
    let few = rest.whole in
    record {
      pieces = octets ∷ rest.pieces;
      more = rest.more;
      whole = omega (arith, sum, both, few);
      some = λ none. cc;
      begins = ended_more (OctetsPart octets) (body_parts rest.pieces trailers) rest.some
          ∙ ap (λ (line : List (Part × Bool)). (OctetsPart octets, false) ∷ line) rest.begins;
    }

-- So it is with all parts after a head whose tokens begin those of the rest.
rest_begins : (parts : List (Part × Bool)) (body : List ℕ) (trailers : Option (List Field))
    (tail : List Token) → AllByRecursion IsNoEmptyPart parts
    → rest_tokens body trailers ≡ tokens_of_parts parts ++ tail → BeginsRest body trailers parts
unfolding tokens_of_parts tokens_of_part end_tokens
rest_begins [] body trailers tail say is = none_yet body trailers
rest_begins ((FieldsPart list, false) ∷ parts) body trailers tail say is =
    let next = trailers_here body trailers list false (tokens_of_parts parts ++ tail) is in cc
rest_begins ((FieldsPart list, true) ∷ parts) body trailers tail say is =
    let next = trailers_here body trailers list true
    (EndToken ∷ (tokens_of_parts parts ++ tail)) is in
    let none : tokens_of_parts parts ++ tail ≡ [] = cc in
    ended_by_trailers body trailers list parts next.0 next.1 (says_none parts tail say.1 none)
rest_begins ((OctetsPart octets, true) ∷ parts) body trailers tail say is =
    let tokens = tokens_of_parts parts in
    let here = octets_begin octets body trailers (EndToken ∷ (tokens ++ tail)) (is
    ∙ append_assoc (each OctetToken octets ++ EndToken ∷ []) tokens tail
    ∙ append_assoc (each OctetToken octets) (EndToken ∷ []) (tokens ++ tail)) in
    let last = ends_here here.0 trailers (tokens ++ tail) here.2 in
    ended_by_octets body trailers octets parts
    (here.1 ∙ ap (λ (left : List ℕ). octets ++ left) last.0 ∙ append-nil octets) last.1
    (says_none parts tail say.1 last.2)
rest_begins ((OctetsPart octets, false) ∷ parts) body trailers tail say is =
    let tokens = tokens_of_parts parts in
    let here = octets_begin octets body trailers (tokens ++ tail) (is
    ∙ append_assoc (each OctetToken octets ++ []) tokens tail
    ∙ ap (λ (line : List Token). line ++ (tokens ++ tail)) (append-nil (each OctetToken octets)))
    in
    more_octets body trailers octets here.0 parts here.1
    (rest_begins parts here.0 trailers tail say.1 here.2)

-- The same of all parts of a message.
record BeginsMessage (message : SentMessage) (parts : List (Part × Bool)) : Type 0 where
  pub pieces : List (List ℕ)
  pub more : List (Part × Bool)
  pub whole : sum_by length pieces ≡ length message.body
  pub begins : message_parts (as_read message pieces) ≡ parts ++ more

-- A head with the end is the message,
head_alone : (message : SentMessage) (list : List Field) (parts : List (Part × Bool))
    → message.head ≡ list → message.body ≡ [] → message.trailers ≡ None → parts ≡ []
    → BeginsMessage message ((FieldsPart list, true) ∷ parts)
unfolding message_parts final_parts trailers_parts ended
head_alone message list parts head empty none last =
    record {
      pieces = [];
      more = [];
      whole = ap length (sym empty);
      begins = rw (head, none, last) refl;
    }

-- and after one without it come more parts.
head_first : (message : SentMessage) (list : List Field) (parts : List (Part × Bool))
    → message.head ≡ list → BeginsRest message.body message.trailers parts
    → BeginsMessage message ((FieldsPart list, false) ∷ parts)
unfolding message_parts final_parts
head_first message list parts head rest =
    record {
      pieces = rest.pieces;
      more = rest.more;
      whole = rest.whole;
      begins = ended_more (FieldsPart message.head) (body_parts rest.pieces message.trailers)
          rest.some
          ∙ ap (λ (fields : List Field). (FieldsPart fields, false)
          ∷ ended (body_parts rest.pieces message.trailers)) head
          ∙ ap (λ (line : List (Part × Bool)). (FieldsPart list, false) ∷ line) rest.begins;
    }

message_begins : (message : SentMessage) (end : Bool) (parts : List (Part × Bool))
    (tail : List Token) → AllByRecursion IsNoEmptyPart parts
    → whole_tokens message end ≡ tokens_of_parts parts ++ tail → BeginsMessage message parts
unfolding tokens_of_parts tokens_of_part end_tokens IsNoEmptyPart
message_begins message end [] tail say is =
    record {
      pieces = message.body ∷ [];
      more = message_parts (as_read message (message.body ∷ []));
      whole = one_piece message.body;
      begins = refl;
    }
message_begins message end ((FieldsPart list, true) ∷ parts) tail say is =
    let tokens = tokens_of_parts parts in
    let same : FieldsToken message.head end ≡ FieldsToken list true = cc in
    let rest : rest_tokens message.body message.trailers ≡ EndToken ∷ (tokens ++ tail) = cc in
    let last = ends_here message.body message.trailers (tokens ++ tail) rest in
    head_alone message list parts (cc) last.0 last.1 (says_none parts tail say.1 last.2)
message_begins message end ((FieldsPart list, false) ∷ parts) tail say is =
    let tokens = tokens_of_parts parts in
    let same : FieldsToken message.head end ≡ FieldsToken list false = cc in
    let rest : rest_tokens message.body message.trailers ≡ tokens ++ tail = cc in
    head_first message list parts (cc)
    (rest_begins parts message.body message.trailers tail say.1 rest)
message_begins message end ((OctetsPart (octet ∷ octets), last) ∷ parts) tail say is = cc
message_begins message end ((OctetsPart [], true) ∷ parts) tail say is = cc
message_begins message end ((OctetsPart [], false) ∷ parts) tail (inl some, say) is =
    absurd (some refl)
message_begins message end ((OctetsPart [], false) ∷ parts) tail (inr wrong, say) is = cc

-- Where the message is well read in whatever pieces its body comes, they can be read.
pub readable_parts : (reads : Reads) (message : SentMessage) (end : Bool)
    (parts : List (Part × Bool))
    → ((pieces : List (List ℕ)) → sum_by length pieces ≡ length message.body
    → IsWellRead reads (as_read message pieces))
    → AllByRecursion IsNoEmptyPart parts
    → IsPrefixOfTokens (tokens_of_parts parts) (whole_tokens message end)
    → IsReadable reads parts
readable_parts reads message end parts well say prefix =
    let all = message_begins message end parts prefix.0 say prefix.1 in
    record {
      message = as_read message all.pieces;
      more = all.more;
      well = well all.pieces all.whole;
      begins = all.begins;
    }
