-- The octets of a request's body, as they come, and what is kept of it.
use Rattle.h2_engines.proofs.Names.{◌≡◌, ℕ, ◌+◌, ◌<◌, ◌≤◌, Bool, true, false, List, [], ◌∷◌, ◌++◌}
use Rattle.h2_engines.proofs.Names.{length, refl, sym, ap, ◌∙◌, append_assoc, append-nil, arith}
use Rattle.h2_engines.proofs.Names.{nat_lt, Field, Part, FieldsPart, OctetsPart, Request, IsRequest}
use Rattle.h2_engines.proofs.Names.{IsLonger, body_room, ends_message, body_in, body_of_parts}
use Rattle.h2_engines.proofs.Names.{is_too_large_body, text_of}
use Rattle.h2_message.specs.Fields.{method_of, path_of}
use Rattle.std.proofs.lemmas.Bool.{ltb-true, ltb-false, lt-ltb, le-ltb}
use Rattle.std.proofs.lemmas.List.{length-append}

-- The last part says whether it ends.
pub ends_last : (parts : List (Part × Bool)) (part : Part) (last : Bool)
    → ends_message (parts ++ (part, last) ∷ []) ≡ last
unfolding ends_message
ends_last [] part last = refl
ends_last (first ∷ []) part last = refl
ends_last (first ∷ (next ∷ parts)) part last = ends_last (next ∷ parts) part last

-- The octets of more parts follow.
body_both : (parts more : List (Part × Bool))
    → body_in (parts ++ more) ≡ body_in parts ++ body_in more
unfolding body_in
body_both [] more = refl
body_both ((OctetsPart octets, last) ∷ parts) more =
    ap (λ (rest : List ℕ). octets ++ rest) (body_both parts more)
    ∙ sym (append_assoc octets (body_in parts) (body_in more))
body_both ((FieldsPart list, last) ∷ parts) more = body_both parts more

pub body_more : (parts : List (Part × Bool)) (octets : List ℕ) (last : Bool)
    → body_in (parts ++ (OctetsPart octets, last) ∷ []) ≡ body_in parts ++ octets
unfolding body_in
body_more parts octets last =
    body_both parts ((OctetsPart octets, last) ∷ [])
    ∙ ap (λ (more : List ℕ). body_in parts ++ more) (append-nil octets)

pub body_same : (parts : List (Part × Bool)) (list : List Field) (last : Bool)
    → body_in (parts ++ (FieldsPart list, last) ∷ []) ≡ body_in parts
unfolding body_in
body_same parts list last =
    body_both parts ((FieldsPart list, last) ∷ []) ∙ append-nil (body_in parts)

-- Whether a body is too large, by its octets.
pub is_large : {parts : List (Part × Bool)} (rest : List (Part × Bool)) (head : List Field)
    (last : Bool) → parts ≡ (FieldsPart head, last) ∷ rest → 1048576 < length (body_in rest)
    → is_too_large_body parts ≡ true
unfolding is_too_large_body body_of_parts
is_large rest head last are more = rw are (lt-ltb 1048576 (length (body_in rest)) more)

pub is_not_large : {parts : List (Part × Bool)} (rest : List (Part × Bool)) (head : List Field)
    (last : Bool) → parts ≡ (FieldsPart head, last) ∷ rest → length (body_in rest) ≤ 1048576
    → is_too_large_body parts ≡ false
unfolding is_too_large_body body_of_parts
is_not_large rest head last are few = rw are (le-ltb 1048576 (length (body_in rest)) few)

pub not_large : {parts : List (Part × Bool)} (rest : List (Part × Bool)) (head : List Field)
    (last : Bool) → parts ≡ (FieldsPart head, last) ∷ rest → is_too_large_body parts ≡ false
    → length (body_in rest) ≤ 1048576
unfolding is_too_large_body body_of_parts
not_large rest head last are fits = ltb-false 1048576 (length (body_in rest)) (rw are at fits)

-- With more parts it is too large still.
too_large_by : (rest more : List (Part × Bool)) → nat_lt 1048576 (length (body_in rest)) ≡ true
    → nat_lt 1048576 (length (body_in (rest ++ more))) ≡ true
too_large_by rest more large =
    let above = ltb-true 1048576 (length (body_in rest)) large in
    let sum = ap length (body_both rest more) ∙ length-append (body_in rest) (body_in more) in
    lt-ltb 1048576 (length (body_in (rest ++ more))) (omega (arith, above, sum))

nothing_large : nat_lt 1048576 0 ≡ true → ⊥
nothing_large large = let above = ltb-true 1048576 0 large in absurd (omega (arith, above))

pub too_large_more : (parts more : List (Part × Bool)) → is_too_large_body parts ≡ true
    → is_too_large_body (parts ++ more) ≡ true
unfolding is_too_large_body body_of_parts
too_large_more [] more large = absurd (nothing_large large)
too_large_more ((FieldsPart head, last) ∷ rest) more large = too_large_by rest more large
too_large_more ((OctetsPart octets, last) ∷ rest) more large = absurd (nothing_large large)

-- Of a request so many octets of the body are kept.
text_length : (pre body : List ℕ) {text : List ℕ} {start : ℕ} → text ≡ pre ++ body
    → start ≡ length (pre ++ []) → length text ≡ start + length body
text_length pre body is begins =
    let all = ap length is ∙ length-append pre body in
    let first = begins ∙ ap length (append-nil pre) in
    omega (arith, all, first)

pub kept_length : {head : List Field} {parts : List (Part × Bool)} {request : Request}
    → IsRequest head parts request
    → length request.text.items ≡ request.start + length (body_in parts)
kept_length {head} {parts} is = text_length _ _ is.text is.start

-- Octets that have no room make the body too large, and those that have don't.
pub no_room : {head : List Field} {parts : List (Part × Bool)} {request : Request}
    (octets : List ℕ) (last : Bool) → IsRequest head parts request
    → body_room request < length octets
    → 1048576 < length (body_in (parts ++ (OctetsPart octets, last) ∷ []))
no_room {parts} octets last is less =
    let kept = kept_length is in
    let sum = ap length (body_more parts octets last) ∙ length-append (body_in parts) octets in
    omega (arith, kept, sum, less)

pub has_room : {head : List Field} {parts : List (Part × Bool)} {request : Request}
    (octets : List ℕ) (last : Bool) → IsRequest head parts request
    → length (body_in parts) ≤ 1048576 → length octets ≤ body_room request
    → length (body_in (parts ++ (OctetsPart octets, last) ∷ [])) ≤ 1048576
has_room {parts} octets last is few enough =
    let kept = kept_length is in
    let sum = ap length (body_more parts octets last) ∙ length-append (body_in parts) octets in
    omega (arith, kept, sum, few, enough)

-- What is kept with more octets is the request with them,
pub longer_request : {head : List Field} {parts : List (Part × Bool)} {old new : Request}
    {octets : List ℕ} (last : Bool) → IsRequest head parts old → IsLonger old octets new
    → IsRequest head (parts ++ (OctetsPart octets, last) ∷ []) new
longer_request {head} {parts} {octets} last is longer =
    let pre = method_of head ++ 32 ∷ path_of head ++ 10 ∷ [] in
    record {
      text = longer.text ∙ ap (λ (text : List ℕ). text ++ octets) is.text ∙ append_assoc _ _ octets
          ∙ ap (λ (body : List ℕ). text_of head body) (sym (body_more parts octets last));
      start = longer.start ∙ is.start;
      to_head = longer.to_head ∙ is.to_head;
    }

-- and with trailers it is the same.
pub same_request : {head : List Field} {parts : List (Part × Bool)} {request : Request}
    (list : List Field) (last : Bool) → IsRequest head parts request
    → IsRequest head (parts ++ (FieldsPart list, last) ∷ []) request
same_request {head} {parts} list last is =
    record {
      text = is.text ∙ ap (λ (body : List ℕ). text_of head body) (sym (body_same parts list last));
      start = is.start;
      to_head = is.to_head;
    }
