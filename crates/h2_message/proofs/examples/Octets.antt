-- Octets of names and values, methods, paths, statuses and lengths.
use Rattle.h2_message.proofs.Names.{is_bad_in_name, is_bad_name, is_bad_value, is_bad_method}
use Rattle.h2_message.proofs.Names.{is_bad_path, is_bad_status, is_interim_status, is_bad_length}
use Rattle.h2_message.proofs.Names.{number_written, is_token_octet}
use Rattle.std.specs.Prelude.{[], ◌∷◌, map, replicate, codes, true, false, ◌≡◌, refl}
use Rattle.h2_message.proofs.examples.Words.{computing}

-- The ends of the ranges that no name has, and their neighbours (RFC 9113, section 8.2.1).
ranges_of_names :
    (map is_bad_in_name (0x00 ∷ 0x09 ∷ 0x20 ∷ 0x41 ∷ 0x5a ∷ 0x7f ∷ 0x80 ∷ 0xff ∷ [])
    ≡ replicate 8 true)
    × (map is_bad_in_name (0x21 ∷ 0x2e ∷ 0x40 ∷ 0x5b ∷ 0x60 ∷ 0x61 ∷ 0x7a ∷ 0x7e ∷ [])
    ≡ replicate 8 false)
unfolding computing
ranges_of_names = (refl, refl)

-- A colon is the first octet or none of a name; a colon alone is a name, and no octet is none.
names :
    (map is_bad_name (codes ":" ∷ codes ":a" ∷ codes "a" ∷ codes "a-b_c.d" ∷ [])
    ≡ replicate 4 false)
    × (map is_bad_name (
    [] ∷ codes "::" ∷ codes "a:" ∷ codes "a:b" ∷ codes ":a:" ∷ codes ":A" ∷ codes "A"
    ∷ codes "aA" ∷ codes " a" ∷ codes "a " ∷ [])
    ≡ replicate 10 true)
unfolding computing
names = (refl, refl)

-- The octets that no value has, and blanks, which none has at an end (section 8.2.1).
values :
    (map is_bad_value (
    [] ∷ codes "a b" ∷ (0x61 ∷ 0x09 ∷ 0x61 ∷ []) ∷ (0x01 ∷ []) ∷ (0x0b ∷ [])
    ∷ (0x0c ∷ []) ∷ (0x0e ∷ []) ∷ (0x7f ∷ []) ∷ (0xff ∷ []) ∷ [])
    ≡ replicate 9 false)
    × (map is_bad_value (
    (0x61 ∷ 0x00 ∷ 0x61 ∷ []) ∷ (0x61 ∷ 0x0a ∷ 0x61 ∷ []) ∷ (0x61 ∷ 0x0d ∷ 0x61 ∷ [])
    ∷ (0x00 ∷ []) ∷ codes " a" ∷ codes "a " ∷ (0x09 ∷ 0x61 ∷ []) ∷ (0x61 ∷ 0x09 ∷ [])
    ∷ codes " " ∷ [])
    ≡ replicate 9 true)
unfolding computing
values = (refl, refl)

-- The fifteen signs of tokens, the ends of their letters and digits, and the octets beside those
-- (RFC 9110, section 5.6.2).
tokens :
    (map is_token_octet (codes "!#$%&'*+-.^_`|~") ≡ replicate 15 true)
    × (map is_token_octet (codes "09AZaz") ≡ replicate 6 true)
    × (map is_token_octet (codes "(),/:;<=>?@[]{}") ≡ replicate 15 false)
    × (map is_token_octet (0x00 ∷ 0x20 ∷ 0x22 ∷ 0x5c ∷ 0x7f ∷ 0x80 ∷ 0xff ∷ [])
    ≡ replicate 7 false)
unfolding computing
tokens = (refl, refl, refl, refl)

-- CONNECT in these letters alone is refused among the tokens.
methods :
    (map is_bad_method (
    codes "GET" ∷ codes "get" ∷ codes "M-SEARCH" ∷ codes "x" ∷ codes "connect"
    ∷ codes "CONNECTS" ∷ codes "CONNEC" ∷ [])
    ≡ replicate 7 false)
    × (map is_bad_method ([] ∷ codes "CONNECT" ∷ codes "GE T" ∷ codes "GET/" ∷ codes "G@T" ∷ [])
    ≡ replicate 5 true)
unfolding computing
methods = (refl, refl)

-- The asterisk is a path of OPTIONS alone (RFC 9113, section 8.3.1).
paths :
    (map (is_bad_path (codes "OPTIONS")) (codes "*" ∷ codes "/" ∷ codes "/*" ∷ [])
    ≡ replicate 3 false)
    × (map (is_bad_path (codes "OPTIONS")) ([] ∷ codes "**" ∷ codes "a" ∷ codes "*/" ∷ [])
    ≡ replicate 4 true)
    × (map (is_bad_path (codes "GET")) (codes "/" ∷ codes "/a" ∷ codes "//" ∷ [])
    ≡ replicate 3 false)
    × (map (is_bad_path (codes "GET")) ([] ∷ codes "*" ∷ codes "a/" ∷ codes " /" ∷ [])
    ≡ replicate 4 true)
    × (map (λ method. is_bad_path method (codes "*")) (
    [] ∷ codes "options" ∷ codes "OPTION" ∷ codes "OPTIONSS" ∷ [])
    ≡ replicate 4 true)
unfolding computing
paths = (refl, refl, refl, refl, refl)

-- Three digits from 100 to 999, other than 101 (RFC 9110, section 15; RFC 9113, section 8.6).
statuses :
    (map is_bad_status (
    codes "100" ∷ codes "102" ∷ codes "199" ∷ codes "200" ∷ codes "304" ∷ codes "599"
    ∷ codes "600" ∷ codes "999" ∷ [])
    ≡ replicate 8 false)
    × (map is_bad_status (
    [] ∷ codes "0" ∷ codes "20" ∷ codes "2000" ∷ codes "000" ∷ codes "099" ∷ codes "101"
    ∷ codes "20/" ∷ codes "2:0" ∷ codes ":00" ∷ codes "/00" ∷ codes "+20" ∷ [])
    ≡ replicate 12 true)
    × (map is_interim_status (codes "100" ∷ codes "103" ∷ codes "199" ∷ [])
    ≡ replicate 3 true)
    × (map is_interim_status ([] ∷ codes "099" ∷ codes "200" ∷ codes "210" ∷ [])
    ≡ replicate 4 false)
unfolding computing
statuses = (refl, refl, refl, refl)

-- One to 19 digits, and the number that they write.
lengths :
    (map is_bad_length (
    codes "0" ∷ codes "5" ∷ codes "05" ∷ codes "9999999999999999999" ∷ [])
    ≡ replicate 4 false)
    × (map is_bad_length (
    [] ∷ codes "00000000000000000005" ∷ codes "+5" ∷ codes "-5" ∷ codes " 5" ∷ codes "5 "
    ∷ codes "5,5" ∷ codes "5.0" ∷ codes "/" ∷ codes ":" ∷ codes "x" ∷ [])
    ≡ replicate 11 true)
    × (map number_written (
    codes "0" ∷ codes "5" ∷ codes "05" ∷ codes "10" ∷ codes "123" ∷ codes "90210" ∷ [])
    ≡ 0 ∷ 5 ∷ 5 ∷ 10 ∷ 123 ∷ 90210 ∷ [])
    × (number_written (codes "9999999999999999999") ≡ 9999999999999999999)
unfolding computing
lengths = (refl, refl, refl, refl)
