-- The rules of a list of fields (RFC 9113, sections 8.2 and 8.3), each a condition that breaks it.
-- contract: h2_message::Reading::fields
-- contract: h2_message::check_request
-- contract: h2_message::check_response
use Rattle.std.specs.Prelude.{ℕ, nat_lt, ◌==◌, ◌||◌, ◌&&◌, not, Bool, false}
use Rattle.std.specs.Prelude.{List, [], ◌∷◌, map, codes, Option, Some, None}
use Rattle.std.specs.List.{list_any, filter, count_by}
use Rattle.std.specs.Str.{byte, str_eq_ignore_ascii_case}
use Rattle.hpack.specs.declared.types.field.Field.{Field}
unfoldable pub use Rattle.hpack.specs.FieldLists.{is_named, value_of}
use Rattle.h2_message.specs.declared.kind.Kind.{Kind}
use Rattle.h2_message.specs.declared.kind.Kind.TheVariants.{Request, Response}
use Rattle.h2_message.specs.Octets.{is_bad_name, is_bad_value, is_bad_method, is_bad_path}
use Rattle.h2_message.specs.Octets.{is_bad_status, is_interim_status, is_bad_length, number_written}

-- Whether a field is a pseudo-field: "pseudo-header fields .. have a name that starts with a single
-- colon" (section 8.2.1).
unfoldable pub is_colon_first : List ℕ → Bool
is_colon_first [] = false
is_colon_first (first ∷ octets) = first == byte ":"

-- rule: 8.3 A pseudo-field after a regular one, or in trailers, breaks M3
unfoldable pub is_pseudo : Field → Bool
is_pseudo field = is_colon_first field.name

unfoldable pub is_regular : Field → Bool
is_regular field = not (is_pseudo field)

-- the pseudo-fields of a request and of a response (sections 8.3.1 and 8.3.2)
-- rule: 8.3 A pseudo-field that its kind of message does not have breaks M4
unfoldable pub pseudo_names : Kind → List (List ℕ)
pseudo_names Request =
    codes ":method" ∷ codes ":scheme" ∷ codes ":path" ∷ codes ":authority" ∷ []
pseudo_names Response = codes ":status" ∷ []

-- those that it must have
-- rule: 8.3.1 A request without :method, :scheme or :path breaks M6
-- rule: 8.3.2 A response without :status breaks M6
unfoldable pub required_names : Kind → List (List ℕ)
required_names Request = codes ":method" ∷ codes ":scheme" ∷ codes ":path" ∷ []
required_names Response = codes ":status" ∷ []

-- M1: a name is not one of HTTP/2 (section 8.2.1).
-- rule: 8.2.1 A name with an octet that it must not have breaks M1
-- rule: 8.2.1 (own) An empty name breaks M1
unfoldable pub has_bad_name : List Field → Bool
has_bad_name fields = list_any (λ field. is_bad_name field.name) fields

-- M2: a value is not one of HTTP/2 (section 8.2.1).
-- rule: 8.2.1 A value with NUL, CR or LF breaks M2
-- rule: 8.2.1 A value that begins or ends with a space or a tab breaks M2
unfoldable pub has_bad_value : List Field → Bool
has_bad_value fields = list_any (λ field. is_bad_value field.value) fields

-- M3: "All pseudo-header fields MUST appear in a field block before all regular field lines"
-- (section 8.3): a pseudo-field stands after a regular one.
-- rule: 8.3 A pseudo-field after a regular one, or in trailers, breaks M3
unfoldable pub has_late_pseudo : List Field → Bool
has_late_pseudo [] = false
has_late_pseudo (field ∷ fields) =
    (is_regular field && list_any is_pseudo fields) || has_late_pseudo fields

-- M3, of trailers: "Pseudo-header fields MUST NOT appear in a trailer section" (section 8.3).
-- rule: 8.3 A pseudo-field after a regular one, or in trailers, breaks M3
unfoldable pub has_pseudo : List Field → Bool
has_pseudo fields = list_any is_pseudo fields

-- M4: this kind of message has no such pseudo-field (section 8.3).
-- rule: 8.3 A pseudo-field that its kind of message does not have breaks M4
unfoldable pub is_unknown_pseudo : Kind → Field → Bool
is_unknown_pseudo kind field =
    is_pseudo field && not (list_any (λ name. is_named name field) (pseudo_names kind))

-- rule: 8.3 A pseudo-field that its kind of message does not have breaks M4
unfoldable pub has_unknown_pseudo : Kind → List Field → Bool
has_unknown_pseudo kind fields = list_any (is_unknown_pseudo kind) fields

-- M5: "The same pseudo-header field name MUST NOT appear more than once in a field block" (section
-- 8.3). One that this kind does not have breaks M4 already.
-- rule: 8.3 A pseudo-field that stands twice breaks M5
unfoldable pub has_pseudo_twice : Kind → List Field → Bool
has_pseudo_twice kind fields =
    list_any (λ name. nat_lt 1 (count_by (is_named name) fields)) (pseudo_names kind)

-- M6: a pseudo-field is missing (sections 8.3.1 and 8.3.2).
-- rule: 8.3.1 A request without :method, :scheme or :path breaks M6
-- rule: 8.3.2 A response without :status breaks M6
unfoldable pub lacks_pseudo : Kind → List Field → Bool
lacks_pseudo kind fields =
    list_any (λ name. not (list_any (is_named name) fields)) (required_names kind)

unfoldable pub or_nothing : Option (List ℕ) → List ℕ
or_nothing None = []
or_nothing (Some value) = value

-- the value of the first field with this name; nothing where there is none
unfoldable pub value_or_nothing : List ℕ → List Field → List ℕ
value_or_nothing name fields = or_nothing (value_of name fields)

abbrev pub method_of : List Field → List ℕ
method_of fields = value_or_nothing (codes ":method") fields

abbrev pub path_of : List Field → List ℕ
path_of fields = value_or_nothing (codes ":path") fields

abbrev pub status_of : List Field → List ℕ
status_of fields = value_or_nothing (codes ":status") fields

-- M7: the method is no token, or CONNECT (section 8.3.1).
-- rule: 8.3.1 A method that is no token, or is CONNECT (own), breaks M7
unfoldable pub has_bad_method : List Field → Bool
has_bad_method fields = is_bad_method (method_of fields)

-- M8: the path neither begins with a slash nor is the asterisk of OPTIONS (section 8.3.1).
-- rule: 8.3.1 A path without / at its begin, but * with OPTIONS, breaks M8
unfoldable pub has_bad_path : List Field → Bool
has_bad_path fields = is_bad_path (method_of fields) (path_of fields)

-- M9: the status is no number from 100 to 999, or 101 (section 8.3.2).
-- rule: 8.3.2 A status that is not three digits from 100 on breaks M9
unfoldable pub has_bad_status : List Field → Bool
has_bad_status fields = is_bad_status (status_of fields)

-- Whether a list is the head of an interim response, by its status (section 8.1).
-- rule: 8.1 (own) No interim response is sent: a status 100 to 199 breaks M9
unfoldable pub is_interim : List Field → Bool
is_interim fields = is_interim_status (status_of fields)

-- M10: "An endpoint MUST NOT generate an HTTP/2 message containing connection-specific header
-- fields"; "The only exception to this is the TE header field, which MAY be present in an HTTP/2
-- request; when it is, it MUST NOT contain any value other than "trailers"" (section 8.2.2), in
-- whatever letter case (RFC 9110, section 10.1.4). That it is taken in responses and trailers too
-- is an own choice.
-- rule: 8.2.2 A connection-specific field breaks M10
unfoldable pub connection_names : List (List ℕ)
connection_names =
    codes "connection" ∷ codes "proxy-connection" ∷ codes "keep-alive"
    ∷ codes "transfer-encoding" ∷ codes "upgrade" ∷ []

-- Whether a field belongs to one connection: it has such a name, or it is `te` with another value
-- than `trailers` (section 8.2.2).
-- rule: 8.2.2 te with another value than trailers breaks M10
unfoldable pub is_connection_field : Field → Bool
is_connection_field field =
    list_any (λ name. is_named name field) connection_names
    || (is_named (codes "te") field
    && not (str_eq_ignore_ascii_case field.value (codes "trailers")))

-- rule: 8.2.2 A connection-specific field breaks M10
unfoldable pub has_connection_field : List Field → Bool
has_connection_field fields = list_any is_connection_field fields

-- the values of `content-length`
-- rule: 8.1.1 A content-length that is no number, or several, breaks M11
unfoldable pub lengths_of : List Field → List (List ℕ)
lengths_of fields = map (λ field. field.value) (filter (is_named (codes "content-length")) fields)

-- Whether the numbers differ.
-- rule: 8.1.1 A content-length that is no number, or several, breaks M11
unfoldable pub differ : List ℕ → Bool
differ [] = false
differ (number ∷ numbers) = list_any (λ other. not (other == number)) numbers

-- M11, of the texts: a `content-length` is no number, or several aren't equal numbers (RFC 9110,
-- section 8.6).
-- rule: 8.1.1 A content-length that is no number, or several, breaks M11
unfoldable pub has_bad_length : List Field → Bool
has_bad_length fields =
    list_any is_bad_length (lengths_of fields) || differ (map number_written (lengths_of fields))

-- the number of the first text
unfoldable pub first_number : List (List ℕ) → Option ℕ
first_number [] = None
first_number (value ∷ values) = Some (number_written value)

-- how long a body is said to be
-- rule: 8.1.1 A body to be sent that content-length denies breaks M11
unfoldable pub declared_length : List Field → Option ℕ
declared_length fields = first_number (lengths_of fields)
