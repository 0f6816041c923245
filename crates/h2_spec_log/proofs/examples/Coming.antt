-- What shows that the logs of the examples come about: numbers, octets and blocks that are tested.
use Rattle.std.proofs.Common.{◌≡◌, ℕ, zero, replicate, ◌^◌, true, false, List, [], ◌∷◌, ◌++◌, Some}
use Rattle.std.proofs.Common.{None, refl}
use Rattle.std.specs.List.{AllByRecursion}
use Rattle.std.proofs.lemmas.Bool.{leb-true}
use Rattle.hpack_text.specs.Bits.{IsOctet}
use Rattle.hpack.specs.Blocks.{Block}
use Rattle.hpack.specs.Written.{IsValidEncoder, AreOctets}
use Rattle.hpack.proofs.WrittenBlocks.{block_encodes}
use Rattle.h2_frame.proofs.EncodingLemmas.{below_test as below}
use Rattle.h2_spec_log.specs.Acts.{AreInRange}
use Rattle.h2_spec_log.specs.LogCalls.{accepts}
use Rattle.h2_spec_log.proofs.Names
use Names.{suc, ◌≤◌, ◌<◌, nat_lt, nat_le, ◌&&◌, Bool, ◌==◌, length, Option, arith, codes, nat_tests}
use Names.{Field, empty_table, Entries, Frame, Headers, Settings, encoding_of, refusal, Role}
use Names.{payload_limit, Values, Act, IsTypedAct, Log, next_unprocessed, log_view, with_call}
use Names.{took_frame, Decoded, IsLog, called_one, Client, Server, is_none, and_parts, eqb-true}
use Names.{nil_from_length, EncoderState, payload_of, IsTyped, acked, refusal_of, answer_of}
use Names.{IsDecodedFor, before, takes, takes_block}
use Rattle.h2_spec_log.proofs.Computing.{computing}
use Rattle.h2_spec_log.proofs.EncodingLemmas.{taken_frame}
use Rattle.h2_spec_log.proofs.examples.Octets.{octets}
use Rattle.h2_spec_log.proofs.examples.Words.{short_request, get_block, request, request_block}
use Rattle.h2_spec_log.proofs.examples.Words.{table_with_authority, short_answer, default_values}

-- a number that is tested to be within another
pub within : (count bound : ℕ) → nat_le count bound ≡ true → count ≤ bound
within count bound h = leb-true count bound h

-- Whether all are octets.
unfoldable pub are_octets : List ℕ → Bool
are_octets [] = true
are_octets (octet ∷ octets) = nat_lt octet 256 && are_octets octets

-- Then they are.
pub octets_are : (octets : List ℕ) → are_octets octets ≡ true → AllByRecursion IsOctet octets
unfolding are_octets
octets_are [] h = tt
octets_are (octet ∷ octets) h =
    (grind (arith, nat_tests), octets_are octets (grind (arith, nat_tests)))

-- Whether names and values of fields are.
unfoldable pub fields_are_octets : List Field → Bool
fields_are_octets [] = true
fields_are_octets (field ∷ fields) = are_octets field.name &&
    (are_octets field.value && fields_are_octets fields)

-- Then they are.
pub fields_are : (fields : List Field) → fields_are_octets fields ≡ true → AreOctets fields
unfolding fields_are_octets
fields_are [] h = tt
fields_are (field ∷ fields) h =
    let (name, others) = and_parts (are_octets field.name)
    (are_octets field.value && fields_are_octets fields) h in
    let (value, rest) = and_parts (are_octets field.value) (fields_are_octets fields) others in
    ((octets_are field.name name, octets_are field.value value), fields_are fields rest)

-- Whether pairs of SETTINGS have 16 bits of identifier and 32 of value.
unfoldable pub are_pairs : List (ℕ × ℕ) → Bool
are_pairs [] = true
are_pairs (pair ∷ pairs) = (nat_lt pair.0 (2 ^ 16) && nat_lt pair.1 (2 ^ 32)) && are_pairs pairs

-- Then they have.
pub pairs_are : (pairs : List (ℕ × ℕ)) → are_pairs pairs
    ≡ true → AllByRecursion (λ (pair : ℕ × ℕ). (pair.0 < 2 ^ 16) × (pair.1 < 2 ^ 32)) pairs
unfolding are_pairs
pairs_are [] h = tt
pairs_are (pair ∷ pairs) h =
    let (one, rest) = and_parts (nat_lt pair.0 (2 ^ 16) && nat_lt pair.1 (2 ^ 32))
    (are_pairs pairs) h in
    let (id, value) = and_parts (nat_lt pair.0 (2 ^ 16)) (nat_lt pair.1 (2 ^ 32)) one in
    ((below _ _ id, below _ _ value), pairs_are pairs rest)

-- Values that are tested to be within their bounds.
pub values_are : (values : Values) → nat_le values.table_limit 65536
    ≡ true → nat_le 1 values.initial_window ≡ true
    → nat_le values.initial_window 2147483647 ≡ true → nat_le 100 values.max_streams
    ≡ true → nat_le values.max_streams 1000 ≡ true
    → nat_le 16384 values.max_frame ≡ true → nat_le values.max_frame 1048576 ≡ true
    → AreInRange values
values_are values a b c d e f g = record {
  table_limit = within _ _ a;
  least_window = within _ _ b;
  initial_window = within _ _ c;
  least_streams = within _ _ d;
  max_streams = within _ _ e;
  least_frame = within _ _ f;
  max_frame = within _ _ g;
}

-- the encoder of a new end
unfoldable pub made : EncoderState
made = record { table = empty_table 4096; least = 4096; limit = 4096 }

-- It writes blocks.
pub made_writes : IsValidEncoder made
unfolding made
made_writes =
    record { least = omega arith; limit = omega arith; maximum = omega arith; within = omega arith }

-- the block of the short request
pub short_block : Block (empty_table 4096) 4096 get_block short_request (empty_table 4096)
unfolding computing made are_octets fields_are_octets
short_block = block_encodes made 4096 short_request made_writes (fields_are short_request refl)
    (below _ _ refl) (within 4096 4096 refl)

-- that of the request with an authority
pub long_block : Block (empty_table 4096) 4096 request_block request table_with_authority
unfolding computing made are_octets fields_are_octets
long_block = block_encodes made 4096 request made_writes (fields_are request refl)
    (below _ _ refl) (within 4096 4096 refl)

-- that of the answer
pub answer_block : Block (empty_table 4096) 4096 (octets (codes "88")) short_answer
    (empty_table 4096)
unfolding computing made are_octets fields_are_octets
answer_block = block_encodes made 4096 short_answer made_writes (fields_are short_answer refl)
    (below _ _ refl) (within 4096 4096 refl)

-- So many octets are, that are all 0.
pub zeros_are : (count : ℕ) → AllByRecursion IsOctet (replicate count 0)
zeros_are zero = tt
zeros_are (suc count) = (omega arith, zeros_are count)

-- Whether a log reads this frame where it is written next: octets may come, none are left over, and
-- the frame breaks no rule.
unfoldable pub receives : Log → Frame → Bool
receives log frame =
    is_none log.failed && (next_unprocessed log == 0 && (length log.unparsed == 0
    && (is_none (refusal frame)
    && nat_le (length (payload_of frame)) (payload_limit (acked log) log.sent))))

-- nothing, where that is tested
pub none_by : {X : Type 0} (one : Option X) → is_none one ≡ true → one ≡ None
none_by None h = refl
none_by (Some x) h = absurd (cc)

-- Then it reads it, with what was seen of it.
pub frame_comes : {role : Role} {values : Values} {log : Log} → IsLog role values log
    → (frame : Frame) (decoded : Option Decoded) → IsTyped frame → receives log frame ≡ true
    → IsDecodedFor log decoded frame
    → IsLog role values (took_frame log (before log ++ encoding_of frame) decoded frame)
unfolding receives
frame_comes {role} {values} {log} is frame decoded typed reads says =
    let (up, reads1) = and_parts (is_none log.failed) _ reads in
    let (reported, reads2) = and_parts (next_unprocessed log == 0) _ reads1 in
    let (left_over, reads3) = and_parts (length log.unparsed == 0) _ reads2 in
    let (writable, fits) = and_parts (is_none (refusal frame)) _ reads3 in
    taken_frame role values log frame decoded is
    (record { up = none_by _ up; all_reported = eqb-true _ _ reported })
    (nil_from_length log.unparsed (eqb-true _ _ left_over)) typed (none_by _ writable)
    (within _ _ fits) says

-- It reads a frame that completes no block,
pub comes : {role : Role} {values : Values} {log : Log} → IsLog role values log
    → (frame : Frame) → IsTyped frame → receives log frame ≡ true → IsDecodedFor log None frame
    → IsLog role values (takes log frame)
unfolding takes
comes is frame typed reads says = frame_comes is frame None typed reads says

-- among them SETTINGS,
pub settings_come : {role : Role} {values : Values} {log : Log} → IsLog role values log
    → (pairs : List (ℕ × ℕ)) → are_pairs pairs ≡ true
    → receives log (Settings false pairs) ≡ true → IsDecodedFor log None (Settings false pairs)
    → IsLog role values (takes log (Settings false pairs))
settings_come is pairs typed reads says =
    comes is (Settings false pairs) (pairs_are pairs typed) reads says

-- and a block in one HEADERS frame.
pub block_comes : {role : Role} {values : Values} {log : Log} → IsLog role values log
    → (stream : ℕ) (end : Bool) (octets : List ℕ) (fields : List Field) (after : Entries)
    → receives log (Headers stream end true octets None None) ≡ true
    → IsDecodedFor log (Some (record { fields = fields; after = after }))
    (Headers stream end true octets None None)
    → IsLog role values (takes_block log stream end octets fields after)
unfolding takes_block
block_comes is stream end octets fields after reads says =
    frame_comes is (Headers stream end true octets None None)
    (Some (record { fields = fields; after = after })) (tt, tt) reads says

-- A call that nothing refuses is answered.
pub calls_come : {role : Role} {values : Values} {log : Log} → IsLog role values log
    → (act : Act) → IsTypedAct act → refusal_of (log_view log) act ≡ None
    → IsLog role values (with_call log act (answer_of (log_view log) act))
calls_come is act typed free = called_one is act _ typed (accepts free refl)

-- The log of a client comes about, and that of a server, with default values.
abbrev pub ClientComes : Log → Type 0
ClientComes log = IsLog Client default_values log

abbrev pub ServerComes : Log → Type 0
ServerComes log = IsLog Server default_values log

-- All that the logs of the examples compute with.
unfoldable pub coming : Unit {0}
unfolding computing are_pairs are_octets fields_are_octets receives
coming = tt

-- the encoder of the request's table
unfoldable with_authority : EncoderState
with_authority = record { table = table_with_authority; least = 4096; limit = 4096 }

with_authority_writes : IsValidEncoder with_authority
unfolding computing with_authority
with_authority_writes = record {
  least = omega arith;
  limit = omega arith;
  maximum = omega arith;
  within = within _ _ refl;
}

-- the block of the short request after it
pub later_block : Block table_with_authority 4096 get_block short_request table_with_authority
unfolding computing with_authority are_octets fields_are_octets
later_block =
    block_encodes with_authority 4096 short_request with_authority_writes
    (fields_are short_request refl) (below _ _ refl) (within 4096 4096 refl)
