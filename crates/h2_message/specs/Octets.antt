-- Which octets the names and values of fields have (RFC 9113, section 8.2.1; RFC 9110, sections
-- 5.6.2, 8.6 and 15).
-- contract: h2_message::Reading::fields
-- contract: h2_message::check_request
-- contract: h2_message::check_response
use Rattle.std.specs.Prelude.{ℕ, ◌+◌, ◌*◌, ◌-◌, nat_lt, nat_le, ◌==◌, ◌||◌, ◌&&◌, not, Bool}
use Rattle.std.specs.Prelude.{true, false, List, [], ◌∷◌, length, reverse, codes, fold}
use Rattle.std.specs.List.{list_any, list_all}
use Rattle.std.specs.Char.{is_ascii_digit, is_ascii_uppercase, is_ascii_lowercase}
use Rattle.std.specs.Str.{byte, bytes_eq, all_ascii_digits}

-- "A field name MUST NOT contain characters in the ranges 0x00-0x20, 0x41-0x5a, or 0x7f-0xff (all
-- ranges inclusive)" (section 8.2.1).
-- rule: 8.2.1 A name with an octet that it must not have breaks M1
-- rule: 8.2.1 (own) An empty name breaks M1
unfoldable pub is_bad_in_name : ℕ → Bool
is_bad_in_name octet =
    nat_le octet 0x20 || (nat_le 0x41 octet && nat_le octet 0x5a) || nat_le 0x7f octet

-- Whether an octet after the first one is none of a name: "With the exception of pseudo-header
-- fields, which have a name that starts with a single colon, field names MUST NOT include a colon".
-- rule: 8.2.1 A name with an octet that it must not have breaks M1
-- rule: 8.2.1 (own) An empty name breaks M1
-- rule: 8.2.1 (own) A scan of 32 octets at once answers what each octet's condition says
unfoldable pub is_bad_after_first : ℕ → Bool
is_bad_after_first octet = is_bad_in_name octet || octet == byte ":"

-- Whether an octet is no small letter, no hyphen and none of the four signs after "z": those that a
-- name must not have are among these.
-- rule: 8.2.1 (own) A scan of 32 octets at once answers what each octet's condition says
unfoldable pub is_unusual : ℕ → Bool
is_unusual octet = (nat_lt octet 0x61 || nat_le 0x7f octet) && not (octet == byte "-")

-- Whether the octets are not a name. That a name is not empty is an own choice.
-- rule: 8.2.1 A name with an octet that it must not have breaks M1
-- rule: 8.2.1 (own) An empty name breaks M1
unfoldable pub is_bad_name : List ℕ → Bool
is_bad_name [] = true
is_bad_name (first ∷ octets) = is_bad_in_name first || list_any is_bad_after_first octets

-- "A field value MUST NOT contain the zero value (ASCII NUL, 0x00), line feed (ASCII LF, 0x0a), or
-- carriage return (ASCII CR, 0x0d) at any position."
-- rule: 8.2.1 A value with NUL, CR or LF breaks M2
-- rule: 8.2.1 A value that begins or ends with a space or a tab breaks M2
-- rule: 8.2.1 (own) A scan of 32 octets at once answers what each octet's condition says
unfoldable pub is_bad_in_value : ℕ → Bool
is_bad_in_value octet = octet == 0x00 || octet == 0x0a || octet == 0x0d

-- Whether an octet is at most a carriage return: those that a value must not have are among these.
-- rule: 8.2.1 (own) A scan of 32 octets at once answers what each octet's condition says
unfoldable pub is_low : ℕ → Bool
is_low octet = nat_le octet 0x0d

-- a space or a tab
-- rule: 8.2.1 A value with NUL, CR or LF breaks M2
-- rule: 8.2.1 A value that begins or ends with a space or a tab breaks M2
unfoldable pub is_blank : ℕ → Bool
is_blank octet = octet == 0x20 || octet == 0x09

-- Whether the first octet is a space or a tab.
-- rule: 8.2.1 A value with NUL, CR or LF breaks M2
-- rule: 8.2.1 A value that begins or ends with a space or a tab breaks M2
unfoldable pub begins_blank : List ℕ → Bool
begins_blank [] = false
begins_blank (first ∷ octets) = is_blank first

-- Whether the octets are not a value: "A field value MUST NOT start or end with an ASCII whitespace
-- character (ASCII SP or HTAB, 0x20 or 0x09)."
-- rule: 8.2.1 A value with NUL, CR or LF breaks M2
-- rule: 8.2.1 A value that begins or ends with a space or a tab breaks M2
unfoldable pub is_bad_value : List ℕ → Bool
is_bad_value value =
    list_any is_bad_in_value value || begins_blank value || begins_blank (reverse value)

-- an octet of a token: a letter, a digit or one of these signs (RFC 9110, section 5.6.2)
-- rule: 8.3.1 A method that is no token, or is CONNECT (own), breaks M7
unfoldable pub is_token_octet : ℕ → Bool
is_token_octet octet =
    is_ascii_digit octet || is_ascii_uppercase octet || is_ascii_lowercase octet
    || list_any (λ sign. octet == sign) (codes "!#$%&'*+-.^_`|~")

-- a token: one such octet or more
-- rule: 8.3.1 A method that is no token, or is CONNECT (own), breaks M7
unfoldable pub is_token : List ℕ → Bool
is_token octets = nat_lt 0 (length octets) && list_all is_token_octet octets

-- Whether the value is not the method of a request: it is no token, or it is CONNECT, which is left
-- out (own).
-- rule: 8.3.1 A method that is no token, or is CONNECT (own), breaks M7
unfoldable pub is_bad_method : List ℕ → Bool
is_bad_method value = not (is_token value) || bytes_eq value (codes "CONNECT")

-- Whether the octets begin with a slash.
-- rule: 8.3.1 A path without / at its begin, but * with OPTIONS, breaks M8
unfoldable pub begins_with_slash : List ℕ → Bool
begins_with_slash [] = false
begins_with_slash (first ∷ octets) = first == byte "/"

-- Whether the value is not the path of a request with this method: a path begins with a slash; "*"
-- is one of OPTIONS (section 8.3.1).
-- rule: 8.3.1 A path without / at its begin, but * with OPTIONS, breaks M8
unfoldable pub is_bad_path : (method path : List ℕ) → Bool
is_bad_path method path =
    not (begins_with_slash path)
    && not (bytes_eq path (codes "*") && bytes_eq method (codes "OPTIONS"))

-- Whether an authority names a user: `:authority` "MUST NOT include the deprecated userinfo
-- subcomponent for "http" or "https" schemed URIs" (section 8.3.1). An "@" ends that subcomponent,
-- and stands nowhere else in an authority (RFC 3986, section 3.2). It is no rule of a message here
-- (own).
-- rule: 8.3.1 An :authority with an @ in it names a user, and a call says so
unfoldable pub names_user : List ℕ → Bool
names_user authority = list_any (λ octet. octet == byte "@") authority

-- three digits, of which the first one isn't 0 (RFC 9110, section 15)
-- rule: 8.3.2 A status that is not three digits from 100 on breaks M9
unfoldable pub is_status_code : List ℕ → Bool
is_status_code (a ∷ b ∷ c ∷ []) =
    is_ascii_digit a && is_ascii_digit b && is_ascii_digit c && not (a == byte "0")
is_status_code value = false

-- Whether the value is not the status of a response: 101 is not used in HTTP/2 (section 8.6).
-- rule: 8.3.2 A status that is not three digits from 100 on breaks M9
-- rule: 8.6 Status 101 breaks M9, sent or read: HTTP/2 has no upgrade
unfoldable pub is_bad_status : List ℕ → Bool
is_bad_status value = not (is_status_code value) || bytes_eq value (codes "101")

-- Whether a status, where it is one, is that of an interim response: 1xx (RFC 9110, section 15.2).
-- rule: 8.1 (own) No interim response is sent: a status 100 to 199 breaks M9
-- rule: 8.1 Interim responses come before the final head, without END_STREAM
unfoldable pub is_interim_status : List ℕ → Bool
is_interim_status [] = false
is_interim_status (first ∷ digits) = first == byte "1"

-- Whether a content-length is no number of 1 to 19 digits. The bound is an own one: so it is below
-- 2^64.
-- rule: 8.1.1 A content-length that is no number, or several, breaks M11
unfoldable pub is_bad_length : List ℕ → Bool
is_bad_length value =
    not (nat_lt 0 (length value) && nat_le (length value) 19 && all_ascii_digits value)

-- the number that digits write
-- rule: 8.1.1 A content-length that is no number, or several, breaks M11
unfoldable pub number_written : List ℕ → ℕ
number_written digits = fold (λ number digit. number * 10 + (digit - byte "0")) 0 digits
