-- The words of the examples: what an end comes to, values, fields, and frames in hexadecimal text.
use Rattle.std.specs.Prelude.{reverse, Option}
use Rattle.h2_spec_log.specs.declared.refusal.Refusal.{Refusal}
use Rattle.h2_spec_log.proofs.Names.{ℕ, false, List, [], ◌∷◌, ◌++◌, map, codes, Some, None, Field}
use Rattle.h2_spec_log.proofs.Names.{Entries, empty_table, Item, Event, Values, Act, Refused, Log}
use Rattle.h2_spec_log.proofs.Names.{output, View, Code, Answer, Verdict, verdict_of, refusal_of}
use Rattle.h2_spec_log.proofs.Names.{answer_of}
use Rattle.h2_spec_log.proofs.examples.Octets.{octets}

-- What an end has come to: the octets that it used, the events that it reported, the oldest first,
-- its output, and the code with which its connection failed.
pub record Outcome : Type 0 where
  pub input : List ℕ
  pub events : List Event
  pub output : List ℕ
  pub failed : Option Code

abbrev pub outcome : Log → Outcome
outcome log = record {
  input = log.input;
  events = reverse log.reported;
  output = output log;
  failed = log.failed;
}

abbrev pub come_to : List ℕ → List Event → List ℕ → Option Code → Outcome
come_to input events output failed =
    record { input = input; events = events; output = output; failed = failed }

-- what a call answers where memory is ample
abbrev pub answer_by : Option Refusal → Answer → Answer
answer_by None answer = answer
answer_by (Some refusal) answer = Refused refusal

abbrev pub answered : View → Act → Answer
answered view act = answer_by (refusal_of view act) (answer_of view act)

abbrev pub answers : View → List Act → List Answer
answers view acts = map (λ act. answered view act) acts

-- the verdicts on items, each of which comes next
abbrev pub verdicts : View → List Item → List Verdict
verdicts view items = map (λ item. verdict_of view None item) items

-- the verdicts on field blocks that decode to these fields, each of which comes next
abbrev pub block_verdicts : View → List Field → List Item → List Verdict
block_verdicts view fields items =
    map (λ item. verdict_of view (Some
    (record { fields = fields; after = empty_table 4096 })) item) items

-- the values of settings that an end has where its user names none
abbrev pub default_values : Values
default_values = record {
  table_limit = 4096;
  initial_window = 65535;
  max_streams = 100;
  max_frame = 16384;
}

-- values with an initial window of 10
abbrev pub small_values : Values
small_values = record {
  table_limit = 4096;
  initial_window = 10;
  max_streams = 100;
  max_frame = 16384;
}

-- a field that isn't sensitive
abbrev pub plain : List ℕ → List ℕ → Field
plain name value = record { name = name; value = value; sensitive = false }

-- the fields of a short request, and its block
abbrev pub short_request : List Field
short_request =
    plain (codes ":method") (codes "GET") ∷ plain (codes ":scheme") (codes "http")
    ∷ plain (codes ":path") (codes "/") ∷ []

abbrev pub get_block : List ℕ
get_block = octets (codes "828684")

-- the fields of the same request with an authority, its block (RFC 7541, section C.4.1), and the
-- table after it
abbrev pub request : List Field
request =
    plain (codes ":method") (codes "GET") ∷ plain (codes ":scheme") (codes "http")
    ∷ plain (codes ":path") (codes "/") ∷ plain (codes ":authority") (codes "www.example.com") ∷ []

abbrev pub request_block : List ℕ
request_block = octets (codes "828684418cf1e3c2e5f23a6ba0ab90f4ff")

abbrev pub table_with_authority : Entries
table_with_authority = record {
  entries = record { name = codes ":authority"; value = codes "www.example.com" } ∷ [];
  maximum = 4096;
}

-- the fields of an answer
abbrev pub short_answer : List Field
short_answer = plain (codes ":status") (codes "200") ∷ []

-- four octets of a body, and eleven
abbrev pub abcd : List ℕ
abcd = octets (codes "61626364")

abbrev pub eleven : List ℕ
eleven = octets (codes "6162636465666768696a6b")

-- eight octets of a PING
abbrev pub one_to_eight : List ℕ
one_to_eight = octets (codes "0102030405060708")

-- the client's preface (RFC 9113, section 3.4)
abbrev pub preface_octets : List ℕ
preface_octets = octets (codes "505249202a20485454502f322e300d0a0d0a534d0d0a0d0a")

-- the first SETTINGS of a client and of a server, with default values (section 6.5.1)
abbrev pub client_settings : List ℕ
client_settings =
    octets (codes "000018 04 00 00000000 000100001000 000200000000 00040000ffff 000600010000")

abbrev pub server_settings : List ℕ
server_settings =
    octets (codes "000018 04 00 00000000 000100001000 000300000064 00040000ffff 000600010000")

-- the first SETTINGS of a server whose initial window is 10
abbrev pub small_settings : List ℕ
small_settings =
    octets (codes "000018 04 00 00000000 000100001000 000300000064 00040000000a 000600010000")

-- SETTINGS without pairs, and an acknowledgment
abbrev pub empty_settings : List ℕ
empty_settings = octets (codes "000000 04 00 00000000")

abbrev pub acknowledgment : List ℕ
acknowledgment = octets (codes "000000 04 01 00000000")

-- HEADERS on stream 1 with the request, which ends the stream
abbrev pub request_octets : List ℕ
request_octets = octets (codes "000011 01 05 00000001 828684418cf1e3c2e5f23a6ba0ab90f4ff")

-- HEADERS on stream 1 with the short request, which doesn't end the stream
abbrev pub short_request_octets : List ℕ
short_request_octets = octets (codes "000003 01 04 00000001 828684")

-- DATA on stream 1 with four octets, with eleven, with none, and with none and END_STREAM (section
-- 6.1)
abbrev pub body_frame : List ℕ
body_frame = octets (codes "000004 00 00 00000001 61626364")

abbrev pub eleven_frame : List ℕ
eleven_frame = octets (codes "00000b 00 00 00000001 6162636465666768696a6b")

abbrev pub empty_frame : List ℕ
empty_frame = octets (codes "000000 00 00 00000001")

abbrev pub last_empty_frame : List ℕ
last_empty_frame = octets (codes "000000 00 01 00000001")

-- GOAWAY without debug data, where its last stream and its code are below 256 (section 6.8)
abbrev pub goaway_frame : (last code : ℕ) → List ℕ
goaway_frame last code =
    octets (codes "000008 07 00 00000000 000000") ++ last ∷ octets (codes "000000") ++ code ∷ []

-- RST_STREAM, where its stream and its code are below 256 (section 6.4)
abbrev pub reset_frame : (stream code : ℕ) → List ℕ
reset_frame stream code =
    octets (codes "000004 03 00 000000") ++ stream ∷ octets (codes "000000") ++ code ∷ []

-- WINDOW_UPDATE, where its stream and its increment are below 256 (section 6.9)
abbrev pub increment_frame : (stream count : ℕ) → List ℕ
increment_frame stream count =
    octets (codes "000004 08 00 000000") ++ stream ∷ octets (codes "000000") ++ count ∷ []
