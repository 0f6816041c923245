-- What is printed of responses.
use Rattle.std.proofs.Common.{◌≡◌, [], ◌∷◌, ◌++◌, codes, refl, true, false, Some, None}
use Rattle.hex.specs.Hex.{encode_with}
use Rattle.h2_message.specs.Messages.{plain_field}
use Rattle.h2_get.specs.Responses.{failure_line, is_failure, response_lines, trailer_lines}

-- rule: engines (own) The words of get make its request and say what is printed
fields_but_the_status : response_lines (plain_field (codes ":status") (codes "200")
    ∷ plain_field (codes "server") (codes "x") ∷ plain_field (codes "a") [] ∷ [])
    ≡ codes "server: x\na: \n"
fields_but_the_status = refl

no_control_characters : response_lines (plain_field (codes "a") (27 ∷ 91 ∷ 255 ∷ 92 ∷ []) ∷ [])
    ≡ codes "a: \\x1b[\\xff\\x5c\n"
unfolding encode_with
no_control_characters = refl

trailers : trailer_lines (Some (plain_field (codes "a") (codes "b") ∷ [])) ≡ codes "\na: b\n"
trailers = refl

-- rule (best): engines (own) With --fail a status of 400 or above ends get with status 1
not_found_is_failure : is_failure (codes "404") ≡ true
not_found_is_failure = refl

least_failure : is_failure (codes "400") ≡ true
least_failure = refl

no_failure : is_failure (codes "399") ≡ false
no_failure = refl

greatest_failure : is_failure (codes "999") ≡ true
greatest_failure = refl

line_of_a_failure : failure_line (codes "404") ≡ codes "error: status 404\n"
line_of_a_failure = refl
